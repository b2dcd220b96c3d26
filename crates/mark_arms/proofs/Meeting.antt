-- A value and the labels of an arm, met in text order.
use mathlib.Core.Path.{◌≡◌, refl, sym, ap, subst, ◌∙◌}
use mathlib.Core.Bool.{Bool, true, false}
use mathlib.Core.List.{List, ◌∷◌}
use mathlib.Core.Option.{Option, none, some}
use Prim.Native.Nat.{ℕ}
use borrow.Author.Tests.{eq-eqb, ne_eqb}
use borrow.Author.Rules.{sfits_of}
use lib.IntN.{ℤ}
use mir.Syntax.{w64}
use mir.Val.{SFits, of_z}
use mir.Facts.{to_z-of_z}
use Rattle.std.specs.Prelude.{Option as Maybe, Some, None, Ok, Err}
use Rattle.mark_arms.specs.declared.Stuck.{Stuck}
use Rattle.leaf_integers.proofs.Machine.{wire}
use Rattle.law.specs.Base.{◌>>=◌, each, pick}
use Rattle.law.specs.Calculate.{Result, is}
use Rattle.law.specs.Environment.{Environment}
use Rattle.law.specs.Forms.{constant}
use Rattle.law.specs.Marking.{mark_labels}
use Rattle.law.specs.Names.{constant_of}
use Rattle.law.specs.Script.{Const}
use Rattle.law.specs.Syntax.{Constant}
use Rattle.law.specs.Trees.{Tree, Trees, end, ◌then◌, Run, first}
use Rattle.law_theorems.specs.Readings.{stack_at}
use Rattle.law.specs.Words.{worded}
use Rattle.law_theorems.proofs.Inversion.{none-some, some_inj, bind-some}
use Rattle.text_heads.specs.Parts.{part_of, rest, constant_in}
use Rattle.rule_labels.specs.Blocks.{Held}
use Rattle.rule_labels.proofs.Telling.{number_same, number-other}
use Rattle.mark_arms.specs.declared.Label.{Label}
use Rattle.mark_arms.specs.Arms.{labels_in, Spots, Labels, LabelsLeft, Meets}
use Rattle.mark_arms.proofs.Reading.{marked}
use Rattle.table_scope.specs.declared.Scope.{Scope}

-- the labels from p on decide
pub record Meeting (s l : List ℕ) (scope : Scope) (k : ℕ) (z : ℤ) (at p : ℕ) : Type 0 where
  pub says : (σ : Environment) → Held s l scope σ → (v : Result Bool) → LabelsLeft σ k z (first (stack_at s at)) v → LabelsLeft σ k z (first (stack_at s p)) v

pub meet-start : (s l : List ℕ) (scope : Scope) (k : ℕ) (z : ℤ) (at : ℕ) → Meeting s l scope k z at at
meet-start s l scope k z at = record { says = λ σ H v L. L }

-- the first of the labels
first-label : {P : Type 0} (σ : Environment) (k : ℕ) (z : ℤ) (t : Tree Run) (us : Trees Run) (v : Result Bool) → ((us ≡ end) → ⊥) → LabelsLeft σ k z (t then us) v
    → ((c : Constant) (x : Const) (cs : List Constant) (xs : List Const) → (worded t >>= constant) ≡ some c → constant_of σ c ≡ some x → labels_in us ≡ some cs → each (constant_of σ) cs ≡ some xs
    → v ≡ mark_labels σ.types σ.vars k z (x ∷ xs) → P) → P
unfolding labels_in each
first-label σ k z t end v h L f = absurd (h refl)
first-label {P} σ k z t (u then us) v h L f = bind-some L.reads λ c hc h'. bind-some h' λ cs hcs e.
    bind-some (subst (λ (ds : List Constant). each (constant_of σ) ds ≡ some L.values) (sym (some_inj e)) L.known) λ x hx g. bind-some g λ xs hxs i.
    f c x cs xs hc hx hcs hxs (L.same ∙ ap (mark_labels σ.types σ.vars k z) (sym (some_inj i)))

module _ (s l : List ℕ) (scope : Scope) (k : ℕ) (z : ℤ) (at p : ℕ) (M : Meeting s l scope k z at p) (x : Maybe ℕ) (S : Spots s p x) where
  no-labels : (σ : Environment) (us : Trees Run) (v : Result Bool) → rest us ≡ end → LabelsLeft σ k z us v → v ≡ is false
  unfolding labels_in each mark_labels
  no-labels σ end v h L = L.same ∙ ap (mark_labels σ.types σ.vars k z) (sym (some_inj (subst (λ (ds : List Constant). each (constant_of σ) ds ≡ some L.values) (sym (some_inj L.reads)) L.known)))
  no-labels σ (t then end) v h L = L.same ∙ ap (mark_labels σ.types σ.vars k z) (sym (some_inj (subst (λ (ds : List Constant). each (constant_of σ) ds ≡ some L.values) (sym (some_inj L.reads)) L.known)))
  no-labels σ (t then (u then us)) v h L = absurd (no_part (sym h))
    where
      no_part : {t : Tree Run} {us : Trees Run} → end ≡ (t then us) → ⊥
      no_part {t} e = none-some (ap partial e)
        where
          partial : Trees Run → Option ℕ
          partial end = none
          partial (t then us) = some 0

  miss-is : x ≡ None → Meets s l scope k z at (Ok false)
  miss-is e = record { says = λ σ H v L. no-labels σ (first (stack_at s p)) v (rw e at S.says) (M.says σ H v L) }

  module _ (q : ℕ) (e : x ≡ Some q) (y : Label) (Y : Labels s l scope p y) where
    -- the label at p, as it is read
    here : {P : Type 0} (σ : Environment) → Held s l scope σ → (v : Result Bool) → LabelsLeft σ k z (first (stack_at s at)) v
        → ((c : Const) (cs : List Constant) (xs : List Const) → y.kind ≡ c.kind → y.value ≡ c.value → labels_in (first (stack_at s q)) ≡ some cs → each (constant_of σ) cs ≡ some xs
        → v ≡ mark_labels σ.types σ.vars k z (c ∷ xs) → P) → P
    unfolding constant_in part_of ◌>>=◌
    here σ H v L f =
        let m = marked s at p x S q e in
        first-label σ k z m.part (first (stack_at s q)) v m.more (subst (λ (us : Trees Run). LabelsLeft σ k z us v) m.before.here (M.says σ H v L)) λ c d cs xs hc hd hcs hxs g.
        let w = Y.says σ H c d (ap constant_in m.before.here ∙ hc) hd in
        f d cs xs w.0 w.1 hcs hxs g

    stuck-is : (u : Stuck) → ((y.kind ≡ k) → ⊥) → Meets s l scope k z at (Err u)
    unfolding mark_labels
    stuck-is u h = record { says = λ σ H v L. here σ H v L λ c cs xs hk hv hcs hxs g. g ∙ rw (ne_eqb k c.kind (λ j. h (hk ∙ sym j))) refl }

    module _ (h : y.kind ≡ k) (fy : SFits w64 y.value) (fz : SFits w64 z) where
      hit-is : of_z w64 y.value ≡ of_z w64 z → Meets s l scope k z at (Ok true)
      unfolding mark_labels pick
      hit-is j = record {
        says = λ σ H v L. here σ H v L λ c cs xs hk hv hcs hxs g.
            g ∙ rw (eq-eqb k c.kind (sym h ∙ hk), ← hv, ← number_same y.value z fy fz j) refl;
      }

      on-is : ((of_z w64 y.value ≡ of_z w64 z) → ⊥) → Meeting s l scope k z at q
      unfolding mark_labels pick
      on-is j = record {
        says = λ σ H v L. here σ H v L λ c cs xs hk hv hcs hxs g. record {
          constants = cs;
          values = xs;
          reads = hcs;
          known = hxs;
          same = g ∙ rw (eq-eqb k c.kind (sym h ∙ hk), ← hv, ← number-other y.value z j) refl;
        };
      }

-- the same as the loop has it
module _ (s l : List ℕ) (scope : Scope) (k : ℕ) (z : ℤ) (at p : ℕ) (fz : SFits w64 z) (M : Meeting s l scope k (wire z) at p) (x : Maybe ℕ) (S : Spots s p x) where
  from-p : Meeting s l scope k z at p
  from-p = subst (λ (y : ℤ). Meeting s l scope k y at p) (to_z-of_z fz) M

  pub meet-miss : x ≡ None → Meets s l scope k z at (Ok false)
  meet-miss e = miss-is s l scope k z at p from-p x S e

  module _ (q : ℕ) (e : x ≡ Some q) (y : Label) (Y : Labels s l scope p y) where
    pub meet-stuck : (u : Stuck) → ((y.kind ≡ k) → ⊥) → Meets s l scope k z at (Err u)
    meet-stuck u h = stuck-is s l scope k z at p from-p x S q e y Y u h

    module _ (h : y.kind ≡ k) (fy : SFits w64 y.value) where
      pub meet-hit : of_z w64 y.value ≡ of_z w64 z → Meets s l scope k z at (Ok true)
      meet-hit j = hit-is s l scope k z at p from-p x S q e y Y h fy fz j

      pub meet-on : ((of_z w64 y.value ≡ of_z w64 z) → ⊥) → Meeting s l scope k (wire z) at q
      meet-on j = subst (λ (u : ℤ). Meeting s l scope k u at q) (sym (to_z-of_z fz)) (on-is s l scope k z at p from-p x S q e y Y h fy fz j)

pub ruleset meet_laws = (meet-miss, meet-stuck, meet-hit, meet-on, sfits_of)
