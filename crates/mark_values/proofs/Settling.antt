-- The ways through constants, `first` and `last`, `error_number`, members and arguments.
use mathlib.Core.Path.{◌≡◌, refl, sym, ap, subst, ◌∙◌}
use mathlib.Core.Bool.{Bool, true, false, true≢false}
use mathlib.Core.List.{List, [], ◌∷◌}
use Prim.Native.Nat.{ℕ, ◌<◌}
use borrow.Author.Tests.{eq-eqb, ne_eqb}
use borrow.Author.Rules.{sfits_of}
use lib.ListN.{length}
use lib.IntN.{ℤ, neg_ℤ, -ℤ-+ℤ_cancel}
use lib.Signed.{lt_z}
use mir.Syntax.{w64}
use mir.Val.{SFits}
use mir.Facts.{to_z-of_z}
use Rattle.leaf_integers.specs.Integers.{inside, least, most, exact}
use Rattle.leaf_integers.specs.declared.Fault.{Fault}
use Rattle.leaf_integers.specs.Integers.{Num}
use Rattle.std.specs.Prelude.{Ok, Err}
use Rattle.leaf_integers.proofs.Machine.{wire}
use Rattle.leaf_integers.proofs.Order.{le_z-trans}
use Rattle.leaf_integers.proofs.Ranges.{inside_is, inside_both, exact-value, ranged-fault}
use Rattle.leaf_words.specs.Numbers.{signed}
use Rattle.law.specs.Base.{pick}
use Rattle.law.specs.Calculate.{Result, is, fails, ◌>>=◌, tested, range_error}
use Rattle.law.specs.Environment.{Environment}
use Rattle.law.specs.Machine as Machine
use Rattle.law.specs.Machine.{Store, sole}
use Rattle.law.specs.Marking.{TypedValue, typed_value, wanted}
use Rattle.law.specs.Types.{Types, Shape, ordinal_shape, set_shape, array_shape, record_shape, info_at, is_ordinal, host_by, host_of, ordinal?}
use Rattle.code.proofs.LayoutCode.{signed-bits}
use Rattle.law_theorems.specs.TypeTables.{Table}
use Rattle.code_calc.specs.Words.{no_result, greatest, fault_base, word_of, tested_word, latest_in, InRange, Exceptional}
use Rattle.code_calc.proofs.Combining.{value-again, fault-again}
use Rattle.code_calc.proofs.Ranging.{wide}
use Rattle.table_scope.specs.declared.Scope.{Scope}
use Rattle.table_scope.specs.declared.Info.{Info}
use Rattle.table_scope.specs.Descriptions.{info_of}
use Rattle.table_scope.specs.Sides.{host_in}
use Rattle.table_scope.proofs.Telling.{kinded, shape-ordinal, low_told, high-told, element-told, host-in}
use Rattle.mark_values.specs.declared.values.Carried.{Carried}
use Rattle.mark_values.specs.Values.{carried_of, MarkRanged, MarkMeans, Carries, Known}
use Rattle.mark_values.specs.Steps.{end_word, Wants, Constants, Ends, Latest, Admits, Takes}
use Rattle.mark_values.proofs.Carrying.{broken-bind, broken-means, view-broken, view-value, means-value, carries-cell, carries-stuck}
use Rattle.mark_values.proofs.Ruling.{simple-ordinal}

-- ---- the bounds of a type, as they are described

module _ {s l ts : List ℕ} {scope : Scope} {σ : Environment} (S : Known s l ts scope σ) (t : ℕ) where
  pub low_small : inside least most (info_at σ.types t).low ≡ true
  low_small = (S.small t).low.ok

  pub high_small : inside least most (info_at σ.types t).high ≡ true
  high_small = (S.small t).high.ok

  pub low_signed : signed (info_of l ts t).low ≡ (info_at σ.types t).low
  low_signed = rw (low_told S.scene t) (signed-bits (info_at σ.types t).low low_small)

  pub high-signed : signed (info_of l ts t).high ≡ (info_at σ.types t).high
  high-signed = rw (high-told S.scene t) (signed-bits (info_at σ.types t).high high_small)

  pub ordinal-yes : (info_of l ts t).shape ≡ 0 → ordinal? σ.types t ≡ true
  ordinal-yes h = sym (shape-ordinal S.scene t) ∙ eq-eqb (info_of l ts t).shape 0 h

  pub ordinal-no : (((info_of l ts t).shape ≡ 0) → ⊥) → ordinal? σ.types t ≡ false
  ordinal-no h = sym (shape-ordinal S.scene t) ∙ ne_eqb (info_of l ts t).shape 0 h

-- the kind of an ordinal is an ordinal
pub host-ordinal : (Γ : Types) → Table Γ → (t : ℕ) → ordinal? Γ t ≡ true → ordinal? Γ (host_of Γ t) ≡ true
host-ordinal Γ T t h = go (info_at Γ t).shape refl h (T.each t).host
  where
    go : (z : Shape) → (info_at Γ t).shape ≡ z → is_ordinal z ≡ true → (is_ordinal (info_at Γ t).shape ≡ true → ((info_at Γ t).host < length Γ) × (ordinal? Γ (info_at Γ t).host ≡ true)) → ordinal? Γ (host_by z t (info_at Γ t).host) ≡ true
    go ordinal_shape e i f = (f (rw e refl)).1
    go set_shape e i f = absurd (true≢false (sym i))
    go array_shape e i f = absurd (true≢false (sym i))
    go record_shape e i f = absurd (true≢false (sym i))

-- ---- constants

between : (lo hi z : ℤ) → inside least most lo ≡ true → inside least most hi ≡ true → inside lo hi z ≡ true → InRange z
between lo hi z p q h =
    wide z (inside_both least most z (le_z-trans least lo z (inside_is least most lo p).0 (inside_is lo hi z h).0)
    (le_z-trans z hi most (inside_is lo hi z h).1 (inside_is least most hi q).1))

module _ (l ts : List ℕ) (k : ℕ) (z : ℤ) (r : Carried) (i : Info) (ei : i ≡ info_of l ts k) where
  pub constant-shape : ((i.shape ≡ 0) → ⊥) → r ≡ carried_of 0 no_result 0 → Constants l ts k z r
  constant-shape h e = rw e (record { says = λ s scope σ S m. rw (ordinal-no S k (λ q. h (ap (λ (j : Info). j.shape) ei ∙ q))) (carries-stuck σ.types m) })

  module _ (h : i.shape ≡ 0) (lo hi : ℤ) (fz : SFits w64 z) (el : lo ≡ signed i.low) (eh : hi ≡ signed i.high) (fl : SFits w64 lo) (fh : SFits w64 hi) (b : Bool) (g : b ≡ inside (wire lo) (wire hi) (wire z)) where
    tested-as : {s : List ℕ} {scope : Scope} {σ : Environment} (S : Known s l ts scope σ) → inside (info_at σ.types k).low (info_at σ.types k).high z ≡ b
    tested-as S = sym (g ∙ rw (to_z-of_z fl, to_z-of_z fh, to_z-of_z fz, el, eh, ei, low_signed S k, high-signed S k) refl)

    ordinal : {s : List ℕ} {scope : Scope} {σ : Environment} (S : Known s l ts scope σ) → ordinal? σ.types k ≡ true
    ordinal S = ordinal-yes S k (sym (ap (λ (j : Info). j.shape) ei) ∙ h)

    pub constant-in : b ≡ true → r ≡ carried_of k (wire z) 0 → Constants l ts k z r
    constant-in q e = rw (e, to_z-of_z fz) (record {
      says = λ s scope σ S m. rw (ordinal S, tested-as S, q)
          (carries-cell σ.types m k z 0 (simple-ordinal σ.types (kinded S.scene) k (ordinal S)) (between (info_at σ.types k).low (info_at σ.types k).high z (low_small S k) (high_small S k) (tested-as S ∙ q)));
    })

    pub constant-out : b ≡ false → r ≡ carried_of 0 no_result 0 → Constants l ts k z r
    constant-out q e = rw e (record { says = λ s scope σ S m. rw (ordinal S, tested-as S, q) (carries-stuck σ.types m) })

pub ruleset constant_laws = (constant-shape, constant-in, constant-out, sfits_of)

module _ (l ts : List ℕ) (z : ℤ) (fz : SFits w64 z) (r : Carried) (n : Num) (e : n ≡ exact (neg_ℤ (wire z))) where
  pub negative-value : (v : ℤ) → n ≡ Ok v → SFits w64 v → Constants l ts 0 (wire v) r → Constants l ts 0 (neg_ℤ z) r
  negative-value v h f C = rw (← to_z-of_z fz, (exact-value (neg_ℤ (wire z)) v (sym e ∙ h)).1, ← to_z-of_z f) C

  pub negative-past : (f : Fault) → n ≡ Err f → r ≡ carried_of 0 no_result 0 → Constants l ts 0 (neg_ℤ z) r
  unfolding exact
  negative-past f h g =
      let q : inside least most (neg_ℤ z) ≡ false = rw (to_z-of_z fz) at (ranged-fault _ f least most (neg_ℤ (wire z)) (sym e ∙ h)).0 in
      rw g (record { says = λ s scope σ S m. rw (S.scene.table.integers.0, S.scene.table.integers.1, S.scene.table.integers.2, q) (carries-stuck σ.types m) })

pub ruleset negative_laws = (negative-value, negative-past, sfits_of)

-- ---- `first` and `last`

module _ (last : Bool) (i : Info) (w : ℤ) (fw : SFits w64 w) where
  pub end-last : last ≡ true → w ≡ signed i.high → wire w ≡ end_word last i
  unfolding end_word
  end-last h e = to_z-of_z fw ∙ e ∙ rw h refl

  pub end-first : last ≡ false → w ≡ signed i.low → wire w ≡ end_word last i
  unfolding end_word
  end-first h e = to_z-of_z fw ∙ e ∙ rw h refl

pub ruleset end_word_laws = (end-last, end-first, sfits_of)

module _ {s l ts : List ℕ} {scope : Scope} {σ : Environment} (S : Known s l ts scope σ) (t : ℕ) where
  end-signed : (last : Bool) → end_word last (info_of l ts t) ≡ pick last (info_at σ.types t).high (info_at σ.types t).low
  unfolding end_word pick
  end-signed true = high-signed S t
  end-signed false = low_signed S t

  end-small : (last : Bool) → InRange (pick last (info_at σ.types t).high (info_at σ.types t).low)
  unfolding pick
  end-small true = wide (info_at σ.types t).high (high_small S t)
  end-small false = wide (info_at σ.types t).low (low_small S t)

module _ (l ts : List ℕ) (last : Bool) (t : ℕ) (r : Carried) (i : Info) (ei : i ≡ info_of l ts t) where
  pub end-shape : ((i.shape ≡ 0) → ⊥) → r ≡ carried_of 0 no_result 0 → Ends l ts last t r
  end-shape h e = rw e (record { says = λ s scope σ S m. rw (ordinal-no S t (λ q. h (ap (λ (j : Info). j.shape) ei ∙ q))) (carries-stuck σ.types m) })

  pub end_is : (k : ℕ) (w : ℤ) → i.shape ≡ 0 → k ≡ host_in l ts t → w ≡ end_word last i → SFits w64 w → r ≡ carried_of k (wire w) 0 → Ends l ts last t r
  end_is k w h ek ew fw e = rw (e, to_z-of_z fw, ew, ek, ei) (record {
    says = λ s scope σ S m.
        let o = ordinal-yes S t (sym (ap (λ (j : Info). j.shape) ei) ∙ h) in
        rw (o, host-in S.scene t, end-signed S t last)
        (carries-cell σ.types m (host_of σ.types t) (pick last (info_at σ.types t).high (info_at σ.types t).low) 0
        (simple-ordinal σ.types (kinded S.scene) (host_of σ.types t) (host-ordinal σ.types S.scene.table t o)) (end-small S t last));
  })

pub ruleset end_of_laws = (end-shape, end_is, sfits_of)

-- ---- `error_number`

pub latest-is : (ws : List ℤ) (w : ℤ) (r : Carried) → w ≡ latest_in ws → SFits w64 w → r ≡ carried_of 0 (wire w) 0 → Latest ws r
latest-is ws w r h f e = rw (e, to_z-of_z f, h) (record { says = λ Γ o m H. subst (λ (z : ℤ). Carries Γ m (is (typed_value 0 (z ∷ []))) (carried_of 0 (latest_in ws) 0)) (sym H.last) (carries-cell Γ m 0 (latest_in ws) 0 (rw o refl) H.last-ranged) })

pub ruleset latest_laws = (latest-is, sfits_of)

-- ---- a member

tested-marks : (lo hi w : ℤ) (q : Result (List ℤ)) → MarkMeans w (q >>= λ u. is (sole u)) → MarkMeans (tested_word lo hi w) (q >>= λ u. tested range_error lo hi (sole u))
unfolding tested_word word_of tested pick MarkRanged Exceptional inside
tested-marks lo hi w q h = go (lt_z greatest w) refl
  where
    go : (b : Bool) → lt_z greatest w ≡ b → MarkMeans (tested_word lo hi w) (q >>= λ u. tested range_error lo hi (sole u))
    go true g = rw (fault-again w g, -ℤ-+ℤ_cancel w fault_base) (broken-means (broken-bind (λ u. tested range_error lo hi (sole u)) (view-broken w q (λ u. sole u) h g)))
    go false g = view-value w q (λ u. sole u) h g (λ u e f i. rw (e, value-again w g, f) (cases (sole u) i))
      where
        cases : (z : ℤ) → InRange z → MarkMeans (word_of (tested range_error lo hi z)) (tested range_error lo hi z)
        cases z i = pass (inside lo hi z)
          where
            pass : (b : Bool) → MarkMeans (word_of (pick b (is z) (fails range_error))) (pick b (is z) (fails range_error))
            pass true = means-value z i
            pass false = record { word = refl; ranged = refl }

pub member_is : (l ts : List ℕ) (t : ℕ) (x : Carried) (i : Info) (h : ℕ) (w lo hi z : ℤ) → i ≡ info_of l ts t → h ≡ host_in l ts i.element → Wants h x w → lo ≡ signed i.low → hi ≡ signed i.high
    → z ≡ tested_word (wire lo) (wire hi) (wire w) → SFits w64 w → SFits w64 lo → SFits w64 hi → SFits w64 z → Admits l ts t x (wire z)
member_is l ts t x i h w lo hi z ei eh W el er ez fw fl fh fz = rw (to_z-of_z fz, ez, to_z-of_z fw, to_z-of_z fl, to_z-of_z fh, el, er, ei) (record {
  says = λ s scope σ S m v X.
      rw (low_signed S t, high-signed S t)
      (tested-marks (info_at σ.types t).low (info_at σ.types t).high w (v >>= wanted (host_of σ.types (info_at σ.types t).element))
      (rw (eh, ei, element-told S.scene t, host-in S.scene (info_at σ.types t).element) at (W.says σ.types m v X)));
})

pub ruleset member_laws = (member_is, sfits_of)

-- ---- an argument

module _ (l ts : List ℕ) (t : ℕ) (x : Carried) (i : Info) (h : ℕ) (w : ℤ) (ei : i ≡ info_of l ts t) (eh : h ≡ host_in l ts t) (W : Wants h x w) (fw : SFits w64 w) where
  -- its kind is met
  met : (s : List ℕ) (scope : Scope) (σ : Environment) → Known s l ts scope σ → (m : Store) (v : Result TypedValue) → Carries σ.types m v x
      → MarkMeans w ((v >>= wanted (host_of σ.types t)) >>= λ u. is (sole u))
  met s scope σ S m v X = rw (eh, host-in S.scene t) at (W.says σ.types m v X)

  pub argument-ordinal : (lo hi z : ℤ) → i.shape ≡ 0 → lo ≡ signed i.low → hi ≡ signed i.high → z ≡ tested_word (wire lo) (wire hi) (wire w) → SFits w64 lo → SFits w64 hi → SFits w64 z → Takes l ts t x (wire z)
  unfolding Machine.admitted
  argument-ordinal lo hi z o el er ez fl fh fz = rw (to_z-of_z fz, ez, to_z-of_z fw, to_z-of_z fl, to_z-of_z fh, el, er, ei) (record {
    says = λ s scope σ S m v X.
        rw (low_signed S t, high-signed S t, ordinal-yes S t (sym (ap (λ (j : Info). j.shape) ei) ∙ o))
        (tested-marks (info_at σ.types t).low (info_at σ.types t).high w (v >>= wanted (host_of σ.types t)) (met s scope σ S m v X));
  })

  pub argument-set : ((i.shape ≡ 0) → ⊥) → Takes l ts t x (wire w)
  unfolding Machine.admitted
  argument-set o = rw (to_z-of_z fw) (record {
    says = λ s scope σ S m v X. rw (ordinal-no S t (λ q. o (ap (λ (j : Info). j.shape) ei ∙ q))) (met s scope σ S m v X);
  })

pub ruleset argument_laws = (argument-ordinal, argument-set, sfits_of)
