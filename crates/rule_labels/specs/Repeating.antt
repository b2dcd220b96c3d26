-- Row 8 of document 01: the labels of a `case` differ.
use Rattle.std.specs.Prelude.{Bool, true, cond, List, ◌≡◌, ℕ}
use Rattle.std.proofs.Math.Option.{Option, none, some}
use Rattle.law.specs.Code.{Cases}
use Rattle.law.specs.Environment.{Environment}
use Rattle.law.specs.Names.{arms_of}
use Rattle.law.specs.Rules.{differ, labels_of}
use Rattle.rule_stages.specs.Stages.{fits, arms_staged}
use Rattle.law.specs.Syntax.{Arms}
use Rattle.law.specs.Trees.{first}
use Rattle.law_theorems.specs.Readings.{stack_at}
use Rattle.text_heads.specs.Parts.{arms_in}
use Rattle.table_scope.specs.declared.Scope.{Scope}
use Rattle.rule_faults.specs.declared.Fault.{Fault}
use Rattle.rule_faults.specs.declared.Fault.TheVariants.{Clear, Kind}
use Rattle.table_scope.specs.Scene.{Scene}
use Rattle.rule_faults.specs.Got.{lowest}

-- whether the labels differ, where all names are known
unfoldable pub labels_differ : Environment → Option Arms → Bool
labels_differ σ none = true
labels_differ σ (some a) = elim (arms_of σ a) [ none ↦ true | some b ↦ differ (labels_of b) ]

-- a fault of row 8 or none: where the arms have no fault f, whether a label comes twice
pub record Repeating (s l : List ℕ) (scope : Scope) (at : ℕ) (f w : Fault) : Type 0 where
  pub small : lowest w Kind ≡ Kind
  pub says : f ≡ Clear → (ts : List ℕ) (top : ℕ) (σ : Environment) (bs : List ℕ) → Scene s l ts scope top σ bs → (js : List ℕ) (k d n : ℕ) (a : Arms × ℕ) (c : Cases)
      → arms_in d n (first (stack_at s at)) ≡ some a → arms_staged σ js k (some a.0) ≡ fits c → w ≡ cond (labels_differ σ (some a.0)) Clear Kind
