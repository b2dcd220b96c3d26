-- Row 8 of document 01: the labels of a `case` differ.
use Rattle.std.specs.Prelude.{Bool, true, List, ◌≡◌, ℕ}
use Rattle.std.proofs.Math.Option.{some}
use Rattle.law.specs.Environment.{Environment}
use Rattle.law.specs.Names.{arms_of}
use Rattle.law.specs.Rules.{all_plain, differ, labels_of}
use Rattle.law.specs.Script as Script
use Rattle.law.specs.Syntax.{Arms}
use Rattle.law.specs.Trees.{first}
use Rattle.law_theorems.specs.Readings.{stack_at}
use Rattle.text_heads.specs.Parts.{arms_in}
use Rattle.table_scope.specs.declared.Scope.{Scope}
use Rattle.table_scope.specs.Scene.{Scene}

-- whether the labels of arms at an offset differ, where none is past the integers
pub record Differs (s l : List ℕ) (scope : Scope) (at : ℕ) (r : Bool) : Type 0 where
  pub says : (ts : List ℕ) (top : ℕ) (σ : Environment) (bs : List ℕ) → Scene s l ts scope top σ bs → (d n : ℕ) (a : Arms × ℕ) (b : Script.Arms)
      → arms_in d n (first (stack_at s at)) ≡ some a → arms_of σ a.0 ≡ some b → all_plain (labels_of b) ≡ true → r ≡ differ (labels_of b)
