-- The keys of labels by the tables.
use mathlib.Core.Path.{◌≡◌, refl, ap, ◌∙◌}
use mathlib.Core.Bool.{Bool}
use mathlib.Core.List.{List, map}
use mathlib.Core.Option.{Option, some}
use Prim.Native.Nat.{ℕ}
use lib.IntN.{ℤ}
use mir.Val.{SFits}
use mir.Facts.{to_z-of_z}
use borrow.Author.Rules.{sfits_of}
use mir.Syntax.{w64}
use Rattle.leaf_integers.proofs.Machine.{wire}
use Rattle.leaf_bytes.specs.Bytes.{small}
use Rattle.law.specs.Calculate.{truth}
use Rattle.law.specs.Environment.{Environment, NameSort, a_value}
use Rattle.law.specs.Names.{as_value}
use Rattle.law.specs.Script.{Const}
use Rattle.law.specs.Trees.{word_at}
use Rattle.law_theorems.proofs.Inversion.{none-some, some_inj}
use Rattle.table_scope.specs.declared.Scope.{Scope}
use Rattle.table_scope.specs.declared.Meaning.{Meaning}
use Rattle.table_scope.specs.Scene.{Means, a-type, a-var, a-proc, a-value, Told, unknown, known, meaning_here}
use Rattle.table_scope.proofs.Telling.{meant}
use Rattle.rule_labels.specs.declared.Mark.{Mark}
use Rattle.rule_labels.specs.declared.Mark.TheVariants as mark
use Rattle.rule_labels.specs.Hops.{MarkIs, a-number, a-truth, a-name}
use Rattle.rule_labels.specs.Blocks.{ordinal_in, value_at, Held}
use Rattle.rule_labels.proofs.Telling.{value-told}
use Rattle.rule_labels.specs.Keys.{kind_in, kind_at, key_by, key_at}

-- ---- the key of a label

pub name-key : (x : Meaning) (j : ℕ) (n r : ℤ) → j ≡ kind_in x → n ≡ ordinal_in x → SFits w64 n → r ≡ key_by j (wire n) → SFits w64 r → wire r ≡ key_by (kind_in x) (ordinal_in x)
name-key x j n r e f p g q = to_z-of_z q ∙ g ∙ ap (key_by j) (to_z-of_z p ∙ f) ∙ ap (λ (k : ℕ). key_by k (ordinal_in x)) e

module _ (s l : List ℕ) (scope : Scope) (m : Mark) (r : ℤ) (q : SFits w64 r) where
  pub mark-number : (z : ℤ) → m ≡ mark.Number z → SFits w64 z → r ≡ key_by 0 (wire z) → wire r ≡ key_at s l scope m
  mark-number z e p g = let i = to_z-of_z q ∙ g ∙ ap (key_by 0) (to_z-of_z p) in rw e i

  pub mark-truth : (b : Bool) (n : ℤ) → m ≡ mark.Truth b → n ≡ truth b → SFits w64 n → r ≡ key_by 1 (wire n) → wire r ≡ key_at s l scope m
  mark-truth b n e f p g = let i = to_z-of_z q ∙ g ∙ ap (key_by 1) (to_z-of_z p ∙ f) in rw e i

  pub mark-name : (p : ℕ) (x : Meaning) → m ≡ mark.Named p → x ≡ meaning_here s l scope p → r ≡ key_by (kind_in x) (ordinal_in x) → wire r ≡ key_at s l scope m
  mark-name p x e f g = let i = to_z-of_z q ∙ g ∙ ap (λ (y : Meaning). key_by (kind_in y) (ordinal_in y)) f in rw e i

pub ruleset mark_laws = (mark-number, mark-truth, mark-name, sfits_of)

pub ruleset name_laws = (name-key, sfits_of)

kind-means : {σ : Environment} {bs : List ℕ} {y : Meaning} {n : NameSort} (x : Const) → Means σ bs y n → n ≡ a_value x → kind_in y ≡ x.kind
kind-means x a-type e = none-some (ap as_value e)
kind-means x (a-var v h) e = none-some (ap as_value e)
kind-means x a-proc e = none-some (ap as_value e)
kind-means x (a-value {k} {n}) e = ap (λ (c : Const). c.kind) (some_inj (ap as_value e))

kind-of-told : {σ : Environment} {bs : List ℕ} {y : Meaning} {o : Option NameSort} (x : Const) → Told σ bs y o → o ≡ some (a_value x) → kind_in y ≡ x.kind
kind-of-told x unknown e = none-some e
kind-of-told x (known M) e = kind-means x M (some_inj e)

kind-told : {s l : List ℕ} {scope : Scope} {σ : Environment} {m : Mark} {x : Const} → Held s l scope σ → MarkIs s σ m x → kind_at s l scope m ≡ x.kind
kind-told H (a-number z) = refl
kind-told H (a-truth b) = refl
kind-told {s} H (a-name p x h) = kind-of-told x (meant H.scene (map small (word_at s p))) h

-- the key by the tables is that of the label
pub key-told : {s l : List ℕ} {scope : Scope} {σ : Environment} {m : Mark} {x : Const} → Held s l scope σ → MarkIs s σ m x → key_at s l scope m ≡ key_by x.kind x.value
key-told {s} {l} {scope} {σ} {m} {x} H M = ap (λ (k : ℕ). key_by k (value_at s l scope m)) (kind-told H M) ∙ ap (key_by x.kind) (value-told H M)
