-- What the answers for a type's name and a constant tell of rows 6 to 8 (rule_stages, Stages), and where the walk goes on.
use Rattle.std.specs.Prelude.{true, false, List, ◌≡◌, ℕ, ℤ}
use Rattle.std.proofs.Math.Option.{Option, none, some}
use Rattle.law.specs.Base.{◌>>=◌}
use Rattle.law.specs.Environment.{Environment}
use Rattle.law.specs.Names.{type_of, constant_of}
use Rattle.law.specs.Rules.{plain}
use Rattle.law.specs.Script.{Const}
use Rattle.rule_stages.specs.Stages.{Staged, fits, staged}
use Rattle.law.specs.Syntax.{Constant, minus}
use Rattle.law.specs.Trees.{Tree, form, Trees, end, ◌then◌, Run, first, later}
use Rattle.law_theorems.specs.Readings.{stack_at}
use Rattle.table_scope.specs.declared.Scope.{Scope}
use Rattle.table_scope.specs.Scene.{Scene}
use Rattle.rule_faults.specs.Got.{is_form, fault_of}
use Rattle.text_parts.specs.Parts.{Before}
use Rattle.text_heads.specs.Parts.{rest, closed, number_in, type_name_in, constant_in}
use Rattle.text_heads.specs.declared.Atom.{Atom}
use Rattle.text_heads.specs.declared.Atom.TheVariants as AT
use Rattle.rule_atoms.specs.declared.Typed.{Typed}
use Rattle.rule_atoms.specs.declared.Valued.{Valued}

-- ---- a type's name

pub record TypeTold (S : Staged ℕ) (r : Typed) : Type 0 where
  pub fault-is : r.fault ≡ fault_of S
  pub kind-is : (k : ℕ) → S ≡ fits k → r.kind ≡ k

pub record GivesType (s l : List ℕ) (scope : Scope) (at : ℕ) (r : Typed) : Type 0 where
  pub goes : is_form r.fault ≡ false → (t : Tree Run) × Before s at t r.next
  pub says : (ts : List ℕ) (top : ℕ) (σ : Environment) (bs : List ℕ) → Scene s l ts scope top σ bs
      → TypeTold (staged (type_name_in (first (stack_at s at))) (type_of σ) (λ _. true) some) r

-- ---- a constant

pub record ValueTold (S : Staged Const) (r : Valued) : Type 0 where
  pub fault-is : r.fault ≡ fault_of S
  pub value-is : (c : Const) → S ≡ fits c → (r.kind ≡ c.kind) × (r.value ≡ c.value)

pub record GivesConstant (s l : List ℕ) (scope : Scope) (at : ℕ) (r : Valued) : Type 0 where
  pub goes : is_form r.fault ≡ false → (t : Tree Run) × Before s at t r.next
  pub says : (ts : List ℕ) (top : ℕ) (σ : Environment) (bs : List ℕ) → Scene s l ts scope top σ bs
      → ValueTold (staged (constant_in (first (stack_at s at))) (constant_of σ) plain some) r

-- `(- number)` from some part on, up to its closing bracket
pub record GivesMinus (s : List ℕ) (at : ℕ) (o : Option Constant) (r : Valued) : Type 0 where
  pub goes : is_form r.fault ≡ false → later (stack_at s at) ≡ stack_at s r.next
  pub says : (σ : Environment) → ValueTold (staged o (constant_of σ) plain some) r

-- all parts of it, the parts after the head, and those after the number z
unfoldable pub minus_form : Trees Run → Option Constant
minus_form us = constant_in (form us then end)

unfoldable pub minus_number : Trees Run → Option Constant
minus_number us = number_in us >>= λ z. closed (rest us) (minus z)

unfoldable pub minus_end : ℤ → Trees Run → Option Constant
minus_end z us = closed us (minus z)

-- and of a word that stands there
abbrev pub minus_by : Atom → Trees Run → Option Constant
minus_by (AT.Number z) us = minus_end z us
minus_by AT.Named us = none
minus_by (AT.Truth b) us = none
minus_by AT.ErrorNumber us = none
minus_by (AT.Base k) us = none
minus_by AT.Nothing us = none
