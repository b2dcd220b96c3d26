-- The walk over the labels of a `case`, from label to label, by offset.
use Rattle.std.specs.Prelude.{Bool, true, ◌⊎◌, List, [], ◌∷◌, ◌++◌, map, ◌≡◌, ℕ, ◌<◌, ℤ, Some, None, Option as Maybe}
use Rattle.std.proofs.Math.Option.{Option, none, some}
use Rattle.leaf_bytes.specs.Bytes.{small}
use Rattle.law.specs.Base.{find}
use Rattle.law.specs.Calculate.{truth}
use Rattle.law.specs.Environment.{Environment, a_value}
use Rattle.law.specs.Names.{constant_of, const_of}
use Rattle.law.specs.Rules.{plain}
use Rattle.law.specs.Script.{Const}
use Rattle.law.specs.Syntax.{Constant}
use Rattle.law.specs.Trees.{form, Trees, end, ◌then◌, Run, first, later, word_at}
use Rattle.law_theorems.specs.Readings.{stack_at}
use Rattle.text_words.specs.Passes.{nodes_all}
use Rattle.rule_labels.specs.Marks.{marks_in, marks_of}
use Rattle.rule_labels.specs.declared.Mark.{Mark}
use Rattle.rule_labels.specs.declared.Mark.TheVariants as mark
use Rattle.rule_labels.specs.declared.Hop.{Hop}
use Rattle.rule_labels.specs.declared.Hop.TheVariants as hop

-- ---- labels

-- the label that a mark stands for
pub data MarkIs (s : List ℕ) (σ : Environment) : Mark → Const → Type 0 where
  a-number : (z : ℤ) → MarkIs s σ (mark.Number z) (const_of 0 z)
  a-truth : (b : Bool) → MarkIs s σ (mark.Truth b) (const_of 1 (truth b))
  a-name : (p : ℕ) (x : Const) → find σ.names (map small (word_at s p)) ≡ some (a_value x) → MarkIs s σ (mark.Named p) x

-- the mark of a constant, where that is in the integers
pub record Tells (s : List ℕ) (m : Mark) (c : Constant) : Type 0 where
  pub tells : (σ : Environment) (x : Const) → constant_of σ c ≡ some x → plain x ≡ true → MarkIs s σ m x

-- ---- where the walk stands: inside an arm, after its head or after a label

-- the labels from there on, of this arm and of those after it
unfoldable pub left_at : List ℕ → ℕ → List Constant
left_at s p = marks_in (first (stack_at s p)) ++ marks_of (first (later (stack_at s p)))

-- at q fewer brackets and words are left, by which the loops are measured
pub record Nearer (s : List ℕ) (at q : ℕ) : Type 0 where
  pub nearer : nodes_all (stack_at s q) < nodes_all (stack_at s at)

-- a part before q that is the constant o, or none, and not the last of its arm: as a label
abbrev pub MarkedBy : List ℕ → Option Constant → ℕ → Hop → Type 0
MarkedBy s o q (hop.Label m p) = (p ≡ q) × ((c : Constant) × ((o ≡ some c) × Tells s m c))
MarkedBy s o q (hop.Over p) = (p ≡ q) × (o ≡ none)
MarkedBy s o q hop.End = ⊥

pub record Marked (s : List ℕ) (o : Option Constant) (q : ℕ) (h : Hop) : Type 0 where
  pub says : MarkedBy s o q h

-- the same of any part of an arm: the last one, its statement, is no label
abbrev pub PassesBy : List ℕ → Option Constant → ℕ → Hop → Type 0
PassesBy s o q (hop.Label m p) = (p ≡ q) × ((first (stack_at s q) ≡ end → ⊥) × ((c : Constant) × ((o ≡ some c) × Tells s m c)))
PassesBy s o q (hop.Over p) = (p ≡ q) × ((first (stack_at s q) ≡ end) ⊎ (o ≡ none))
PassesBy s o q hop.End = ⊥

pub record Passes (s : List ℕ) (o : Option Constant) (q : ℕ) (h : Hop) : Type 0 where
  pub says : PassesBy s o q h

-- into the next arm, whose parts begin at p: past its head, or there are no labels
abbrev pub EntersFormBy : List ℕ → ℕ → Maybe ℕ → Type 0
EntersFormBy s p (Some q) = ((ts : Trees Run) → marks_of (form (first (stack_at s p)) then ts) ≡ (marks_in (first (stack_at s q)) ++ marks_of ts)) × ((later (stack_at s p) ≡ later (stack_at s q)) × Nearer s p q)
EntersFormBy s p None = (ts : Trees Run) → marks_of (form (first (stack_at s p)) then ts) ≡ []

pub record EntersForm (s : List ℕ) (p : ℕ) (h : Maybe ℕ) : Type 0 where
  pub says : EntersFormBy s p h

-- the same from an offset where arms stand
abbrev pub EntersArmBy : List ℕ → ℕ → Maybe ℕ → Type 0
EntersArmBy s at (Some q) = (marks_of (first (stack_at s at)) ≡ left_at s q) × Nearer s at q
EntersArmBy s at None = marks_of (first (stack_at s at)) ≡ []

pub record EntersArm (s : List ℕ) (at : ℕ) (h : Maybe ℕ) : Type 0 where
  pub says : EntersArmBy s at h

-- the same as a hop
abbrev pub HopsInBy : List ℕ → ℕ → Hop → Type 0
HopsInBy s at (hop.Label m q) = ⊥
HopsInBy s at (hop.Over q) = (marks_of (first (stack_at s at)) ≡ left_at s q) × Nearer s at q
HopsInBy s at hop.End = marks_of (first (stack_at s at)) ≡ []

pub record HopsIn (s : List ℕ) (at : ℕ) (h : Hop) : Type 0 where
  pub says : HopsInBy s at h

-- one part of an arm is passed, or its closing bracket and the next arm's head
abbrev pub HopsBy : List ℕ → ℕ → Hop → Type 0
HopsBy s at (hop.Label m q) = ((c : Constant) × ((left_at s at ≡ (c ∷ left_at s q)) × Tells s m c)) × Nearer s at q
HopsBy s at (hop.Over q) = (left_at s at ≡ left_at s q) × Nearer s at q
HopsBy s at hop.End = left_at s at ≡ []

pub record Hops (s : List ℕ) (at : ℕ) (h : Hop) : Type 0 where
  pub says : HopsBy s at h

-- the next label is passed, or none is left
abbrev pub NextsBy : List ℕ → ℕ → Maybe (Mark × ℕ) → Type 0
NextsBy s at (Some (m, q)) = ((c : Constant) × ((left_at s at ≡ (c ∷ left_at s q)) × Tells s m c)) × Nearer s at q
NextsBy s at None = left_at s at ≡ []

pub record Nexts (s : List ℕ) (at : ℕ) (r : Maybe (Mark × ℕ)) : Type 0 where
  pub says : NextsBy s at r
