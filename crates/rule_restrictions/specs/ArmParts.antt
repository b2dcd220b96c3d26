-- The labels of an arm, by offset: none is past the integers.
use Rattle.std.specs.Prelude.{Bool, true, false, List, ◌≡◌, ℕ}
use Rattle.std.proofs.Math.Option.{some}
use Rattle.law.specs.Base.{each}
use Rattle.law.specs.Environment.{Environment}
use Rattle.law.specs.Names.{constant_of}
use Rattle.law.specs.Rules.{all_plain}
use Rattle.law.specs.Script.{Const}
use Rattle.law.specs.Syntax.{Constant, Stmt}
use Rattle.law.specs.Trees.{Tree, Trees, end, ◌then◌, Run, first}
use Rattle.law_theorems.specs.Readings.{stack_at}
use Rattle.law_theorems.specs.LinesKeep.{AllFair}
use Rattle.law_theorems.specs.TypeTables.{Table}
use Rattle.text_heads.specs.Parts.{stmt_in}
use Rattle.rule_constants.specs.Plain.{plain_tree, plain_first}
use Rattle.rule_statements.specs.Cases.{arm_from}
use Rattle.rule_restrictions.specs.declared.arm_parts.ArmPart.{ArmPart}
use Rattle.rule_restrictions.specs.declared.arm_parts.ArmPart.TheVariants as part
use Rattle.rule_restrictions.specs.declared.arm_parts.AfterArm.{AfterArm}
use Rattle.rule_restrictions.specs.declared.arm_parts.AfterArm.TheVariants as after

-- a label that stands before q
abbrev pub LabelBeforeBy : List ℕ → ℕ → ℕ → ArmPart → Type 0
LabelBeforeBy s at q part.Missing = ⊥
LabelBeforeBy s at q part.Last = ⊥
LabelBeforeBy s at q (part.Label p) = (p ≡ q) × (plain_first (first (stack_at s at)) ≡ true)
LabelBeforeBy s at q part.Bad = plain_first (first (stack_at s at)) ≡ false

pub record LabelBefore (s : List ℕ) (at q : ℕ) (r : ArmPart) : Type 0 where
  pub says : LabelBeforeBy s at q r

-- the part t before us, as a part of an arm
abbrev pub PartBy : List ℕ → Tree Run → Trees Run → ArmPart → Type 0
PartBy s t us part.Missing = ⊥
PartBy s t us part.Last = us ≡ end
PartBy s t us (part.Label q) = (first (stack_at s q) ≡ us) × ((us ≡ end → ⊥) × (plain_tree t ≡ true))
PartBy s t us part.Bad = (us ≡ end → ⊥) × (plain_tree t ≡ false)

pub record SomePart (s : List ℕ) (at : ℕ) (r : ArmPart) : Type 0 where
  pub says : (t : Tree Run) (us : Trees Run) → first (stack_at s at) ≡ (t then us) → PartBy s t us r

-- one part of an arm
abbrev pub LabelledBy : List ℕ → ℕ → ArmPart → Type 0
LabelledBy s at part.Missing = first (stack_at s at) ≡ end
LabelledBy s at part.Last = (t : Tree Run) × (first (stack_at s at) ≡ (t then end))
LabelledBy s at (part.Label q) = (t : Tree Run) × ((first (stack_at s at) ≡ (t then first (stack_at s q))) × ((first (stack_at s q) ≡ end → ⊥) × (plain_tree t ≡ true)))
LabelledBy s at part.Bad = (t : Tree Run) × ((us : Trees Run) × ((first (stack_at s at) ≡ (t then us)) × ((us ≡ end → ⊥) × (plain_tree t ≡ false))))

pub record Labelled (s : List ℕ) (at : ℕ) (r : ArmPart) : Type 0 where
  pub says : LabelledBy s at r

-- the labels cs in an environment are all in the integers, or are not
pub record AllAre (b : Bool) (cs : List Constant) : Type 0 where
  pub says : (σ : Environment) → Table σ.types → (k : ℕ) → AllFair σ.types k σ.names → (xs : List Const) → each (constant_of σ) cs ≡ some xs → all_plain xs ≡ b

-- past the labels of an arm
abbrev pub AfterLabelsBy : List ℕ → ℕ → AfterArm → Type 0
AfterLabelsBy s at (after.Stmt p) = (d n : ℕ) (a : List Constant × (Stmt × ℕ)) → arm_from d n (first (stack_at s at)) ≡ some a → (stmt_in d n (first (stack_at s p)) ≡ some a.1) × AllAre true a.0
AfterLabelsBy s at after.Broken = (d n : ℕ) (a : List Constant × (Stmt × ℕ)) → arm_from d n (first (stack_at s at)) ≡ some a → AllAre false a.0
AfterLabelsBy s at after.Nothing = (d n : ℕ) (a : List Constant × (Stmt × ℕ)) → arm_from d n (first (stack_at s at)) ≡ some a → ⊥

pub record AfterLabels (s : List ℕ) (at : ℕ) (r : AfterArm) : Type 0 where
  pub says : AfterLabelsBy s at r
