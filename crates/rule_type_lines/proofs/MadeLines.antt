-- A line from the answer for its type's form.
use mathlib.Core.List.{List}
use mathlib.Core.Option.{Option}
use Prim.Native.Nat.{ℕ}
use Rattle.law.specs.Syntax.{TypeForm}
use Rattle.rule_declarations.specs.declared.State.{State}
use Rattle.rule_declarations.specs.declared.Lined.{Lined}
use Rattle.rule_type_lines.specs.declared.Shaped.{Shaped}
use Rattle.rule_type_lines.specs.TypeLines.{GivesShape, GivesShaped, GivesMade}

pub made-is : (s l ts : List ℕ) (st : State) (p at : ℕ) (o : Option TypeForm) (g : Shaped) → GivesShape s l ts st at o g → (r : Lined) (l' ts' : List ℕ)
    → GivesShaped s l ts st p g r l' ts' → GivesMade s l ts st p at o r l' ts'
made-is s l ts st p at o g G r l' ts' S = record { gives = λ hp. S.gives at o G hp }
