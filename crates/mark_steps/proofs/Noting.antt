-- The ways through what takes a step or notes an exception.
use mathlib.Core.Path.{◌≡◌, refl, sym, ap, subst, ◌∙◌}
use mathlib.Core.Bool.{Bool, true, false}
use mathlib.Core.List.{List}
use Prim.Native.Nat.{ℕ, zero, suc, ◌+◌, ◌-◌, ◌%◌, ◌<◌}
use native.Mathlib.Omega.{arith}
use lib.IntN.{ℤ, pos, negsuc, ◌+ℤ◌, ◌-ℤ◌}
use lib.ListN.{get_or, set}
use lib.Signed.{lt_z}
use lib.Dec.{T}
use mir.Syntax.{w32, w64}
use mir.Val.{SFits, Fits, to_z, of_z}
use mir.Facts.{to_z-of_z, to_z_pos}
use borrow.Author.Tests.{lt-ltb, eq-eqb, ne_eqb}
use Rattle.leaf_integers.specs.Integers.{is_zero}
use Rattle.leaf_integers.proofs.Machine.{wire, low, high, zero_bits, fits-between}
use Rattle.leaf_integers.proofs.Order.{lt-le, lt-moved, moved-lt}
use Rattle.law.specs.Base.{pick}
use Rattle.code_calc.specs.Words.{greatest, fault_base, latest_at, place_at, latest_in, Exceptional}
use Rattle.code_calc.proofs.Ranging.{above-fault, back-fault}
use Rattle.mark_steps.specs.Ends.{left_in, step_word, raised_word, fault_in, noted_in, number_in, Raises, RaisesNumber}

-- ---- `left_in`, `stepped`
pub left_is : (w : ℕ) → w % 4294967296 ≡ left_in w
unfolding left_in
left_is w = refl

pub step-none : (left : ℕ) → left ≡ 0 → 4294967296 ≡ step_word left
unfolding step_word pick
step-none left h = sym (ap (λ (b : Bool). pick b 4294967296 (left - 1)) (eq-eqb left 0 h))

pub step-one : (left : ℕ) → ((left ≡ 0) → ⊥) → left - 1 ≡ step_word left
unfolding step_word pick
step-one left h = sym (ap (λ (b : Bool). pick b 4294967296 (left - 1)) (ne_eqb left 0 h))

pub ruleset step_laws = (step-none, step-one)

-- ---- `raising`
pub raising-is : (z : ℤ) (n : ℕ) (ws : List ℤ) (left : ℕ) → SFits w64 z → Fits w32 n
    → Raises z n ws left (set (set ws latest_at (wire z)) place_at (to_z w64 n)) (8589934592 + left % 4294967296)
unfolding raised_word noted_in
raising-is z n ws left f g = record {
  word = refl;
  store = ap (λ (y : ℤ). set (set ws latest_at y) place_at (to_z w64 n)) (to_z-of_z f) ∙ ap (set (set ws latest_at z) place_at) (to_z_pos w64 {n = n} (omega (arith, g.fits)));
  small = omega (arith, g.fits);
}

-- ---- `failing`

-- the word of an exception holds it
pub fault-back : (e : ℤ) → Exceptional e → fault_in (e +ℤ fault_base) ≡ e
unfolding fault_in pick
fault-back e h = rw (sym (above-fault e h)) (back-fault e h)

less-room : (w : ℤ) → SFits w64 w → lt_z greatest w ≡ true → SFits w64 (w -ℤ fault_base)
less-room (pos n) f h =
    let g : n < 9223372036854775808 = f.sfits in
    fits-between (pos n -ℤ fault_base)
    (lt-le low (pos n -ℤ fault_base) (lt-moved low fault_base (pos n)))
    (lt-le (pos n -ℤ fault_base) high (moved-lt high fault_base (pos n) ∙ lt-ltb n 18446744073709551614 (omega arith)))
less-room (negsuc n) f h = absurd (subst T (sym h) tt)

module _ (w : ℤ) (n : ℕ) (ws : List ℤ) (left : ℕ) (ws' : List ℤ) (r : ℕ) (f : SFits w64 w) where
  pub failing-room : lt_z greatest (wire w) ≡ true → SFits w64 (wire w -ℤ fault_base)
  failing-room h = rw (to_z-of_z f) (less-room w f (rw (to_z-of_z f) at h))

  pub failing-above : lt_z greatest (wire w) ≡ true → Raises (wire (wire w -ℤ fault_base)) n ws left ws' r → Raises (fault_in w) n ws left ws' r
  unfolding fault_in pick
  failing-above h R =
      let g : lt_z greatest w ≡ true = rw (to_z-of_z f) at h in
      subst (λ (z : ℤ). Raises z n ws left ws' r) (to_z-of_z (failing-room h) ∙ ap (λ (z : ℤ). z -ℤ fault_base) (to_z-of_z f) ∙ rw g) R

  pub failing-below : lt_z greatest (wire w) ≡ false → Raises (wire w) n ws left ws' r → Raises (fault_in w) n ws left ws' r
  unfolding fault_in pick
  failing-below h R =
      let g : lt_z greatest w ≡ false = rw (to_z-of_z f) at h in
      subst (λ (z : ℤ). Raises z n ws left ws' r) (to_z-of_z f ∙ rw g) R

pub ruleset failing_laws = (failing-room, failing-above, failing-below)

-- ---- `raise_number`
zero_is : (z : ℤ) → SFits w64 z → of_z w64 z ≡ 0 → is_zero z ≡ true
unfolding is_zero
zero_is z f e = rw (zero_bits z f e)

zero-not : (z : ℤ) → ((of_z w64 z ≡ 0) → ⊥) → is_zero z ≡ false
unfolding is_zero
zero-not (pos zero) h = absurd (h refl)
zero-not (pos (suc n)) h = ne_eqb (suc n) 0 (λ e. absurd (omega (arith, e)))
zero-not (negsuc n) h = refl

module _ (z : ℤ) (n : ℕ) (ws : List ℤ) (left : ℕ) (ws' : List ℤ) (r : ℕ) (f : SFits w64 z) where
  pub raise-new : ((of_z w64 z ≡ 0) → ⊥) → Raises (wire z) n ws left ws' r → RaisesNumber z n ws left ws' r
  unfolding number_in pick
  raise-new h R = record {
    word = R.word;
    store = R.store ∙ ap (λ (y : ℤ). noted_in y n ws) (to_z-of_z f) ∙ rw (zero-not z h);
    small = R.small;
  }

  pub raise-none : of_z w64 z ≡ 0 → SFits w64 (get_or ws latest_at (pos 0)) → of_z w64 (get_or ws latest_at (pos 0)) ≡ 0 → Raises (negsuc 101) n ws left ws' r → RaisesNumber z n ws left ws' r
  unfolding number_in latest_in pick
  raise-none h g k R = record {
    word = R.word;
    store = R.store ∙ rw (zero_is z f h, zero_is (get_or ws latest_at (pos 0)) g k);
    small = R.small;
  }

pub raise-again : (z : ℤ) (n : ℕ) (ws : List ℤ) (left : ℕ) → SFits w64 z → Fits w32 n → of_z w64 z ≡ 0 → ((of_z w64 (get_or ws latest_at (pos 0)) ≡ 0) → ⊥)
    → RaisesNumber z n ws left ws (8589934592 + left % 4294967296)
unfolding raised_word number_in latest_in pick
raise-again z n ws left f g h k = record {
  word = refl;
  store = rw (zero_is z f h, zero-not (get_or ws latest_at (pos 0)) k);
  small = omega (arith, g.fits);
}

pub ruleset raise_laws = (raise-new, raise-none, raise-again)
