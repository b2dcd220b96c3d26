-- Sizes of products and the laws of `times_large`, `mul`, `sqr` and `abs`: a factor above 2147483648 in size gives 0 or
-- leaves the integers, and two others have a product that an i64 holds. Assumes nothing.
use mathlib.Core.Path.{◌≡◌, refl, sym, ap, ◌∙◌}
use mathlib.Core.Bool.{Bool, true, false, true≢false}
use Prim.Native.Nat.{ℕ, zero, suc, ◌+◌, ◌*◌, ◌≤◌, ◌<◌}
use native.Mathlib.Nat.{not-suc-le-zero, le_trans, le_of_eq, mul-le-mul, le-mul_of_pos_right, zero-lt-suc}
use native.Mathlib.Omega.{arith}
use borrow.Author.Tests.{ltb-true, leb-true, leb-false}
use lib.Dec.{leb}
use lib.IntN.{ℤ, pos, negsuc, neg_ℤ, nat_abs, ◌*ℤ◌, *ℤ_comm, *ℤ-zero}
use lib.Signed.{mag, lt_z}
use mir.Syntax.{w64}
use mir.Val.{SFits, of_z}
use mir.Facts.{to_z-of_z}
use Rattle.leaf_integers.specs.Integers.{pick, is_zero, inside, exact}
use Rattle.leaf_integers.specs.declared.Fault.TheVariants.{Overflow}
use Rattle.leaf_integers.specs.Integers.{Num}
use Rattle.std.specs.Prelude.{Ok, Err}
use Rattle.leaf_integers.proofs.Ranges.{inside-abs, pick_yes, pick_no, is-zero, not-zero, exact-in, exact-out}
use Rattle.leaf_integers.proofs.Machine.{wire, fits-mag, zero_bits}

-- ---- sizes

pub abs_neg : (n : ℕ) → nat_abs (neg_ℤ (pos n)) ≡ n
abs_neg zero = refl
abs_neg (suc n) = refl

pub abs-mul : (x y : ℤ) → nat_abs (x *ℤ y) ≡ nat_abs x * nat_abs y
abs-mul (pos a) (pos b) = refl
abs-mul (pos a) (negsuc b) = abs_neg (a * suc b)
abs-mul (negsuc a) (pos b) = abs_neg (suc a * b)
abs-mul (negsuc a) (negsuc b) = refl

pub abs-above : (z : ℤ) → nat_abs z ≤ mag z + 1
abs-above (pos n) = omega arith
abs-above (negsuc n) = omega arith

pub abs-below : (z : ℤ) → mag z ≤ nat_abs z
abs-below (pos n) = omega arith
abs-below (negsuc n) = omega arith

-- a number above 2147483648 in size is out of range
pub large-out : (z : ℤ) → 2147483649 ≤ nat_abs z → exact z ≡ Err Overflow
large-out z h = exact-out z (omega (arith, abs-above z))

small-fits : (x y : ℤ) → nat_abs x ≤ 2147483648 → nat_abs y ≤ 2147483648 → SFits w64 (x *ℤ y)
small-fits x y h k =
    fits-mag (x *ℤ y) (omega (arith, abs-below (x *ℤ y), abs-mul x y, mul-le-mul h k))

-- ---- a large factor

large-both : (x y : ℤ) → 2147483649 ≤ nat_abs x → 0 < nat_abs y → exact (x *ℤ y) ≡ Err Overflow
large-both x y h k = large-out (x *ℤ y) (le_trans h (le_trans (le-mul_of_pos_right (nat_abs x) k) (le_of_eq (sym (abs-mul x y)))))

large_is : (x y : ℤ) → 2147483649 ≤ nat_abs x → exact (x *ℤ y) ≡ pick (is_zero y) (Ok (pos 0)) (Err Overflow)
large_is x (pos zero) h = ap exact (*ℤ-zero x) ∙ exact-in (pos 0) (omega arith) ∙ sym (pick_yes (is_zero (pos 0)) (Ok (pos 0)) (Err Overflow) (is-zero (pos 0) refl))
large_is x (pos (suc b)) h =
    large-both x (pos (suc b)) h (zero-lt-suc b)
    ∙ sym (pick_no (is_zero (pos (suc b))) (Ok (pos 0)) (Err Overflow) (not-zero (pos (suc b)) (λ e. absurd (omega (arith, ap nat_abs e)))))
large_is x (negsuc b) h =
    large-both x (negsuc b) h (zero-lt-suc b)
    ∙ sym (pick_no (is_zero (negsuc b)) (Ok (pos 0)) (Err Overflow) (not-zero (negsuc b) (λ e. absurd (omega (arith, ap nat_abs e)))))

-- ---- the laws of the functions, with each number as its local holds it

module _ (k : ℤ) (p : SFits w64 k) where
  pub times_zero : of_z w64 k ≡ 0 → Ok (pos 0) ≡ pick (is_zero k) (Ok (pos 0)) (Err Overflow)
  times_zero h = sym (pick_yes (is_zero k) (Ok (pos 0)) (Err Overflow) (is-zero k (zero_bits k p h)))

  pub times_more : (of_z w64 k ≡ 0 → ⊥) → Err Overflow ≡ pick (is_zero k) (Ok (pos 0)) (Err Overflow)
  times_more h = sym (pick_no (is_zero k) (Ok (pos 0)) (Err Overflow) (not-zero k (λ e. h (ap (of_z w64) e))))

-- t says whether z is at most 2147483648 in size
module _ (z : ℤ) (t : Bool) (p : SFits w64 z) (e : t ≡ inside (negsuc 2147483647) (pos 2147483648) (wire z)) where
  test : t ≡ leb (nat_abs z) 2147483648
  test = rw (to_z-of_z p) at e ∙ inside-abs 2147483647 z

  is-small : t ≡ true → nat_abs z ≤ 2147483648
  is-small h = leb-true (nat_abs z) 2147483648 (sym test ∙ h)

  is-large : t ≡ false → 2147483649 ≤ nat_abs z
  is-large h = leb-false (nat_abs z) 2147483648 (sym test ∙ h)

  pub large-first : (y : ℤ) (r : Num) → SFits w64 y → t ≡ false → r ≡ pick (is_zero (wire y)) (Ok (pos 0)) (Err Overflow) → r ≡ exact (z *ℤ y)
  large-first y r q h f = rw (to_z-of_z q) at f ∙ sym (large_is z y (is-large h))

  pub large-second : (x : ℤ) (r : Num) → SFits w64 x → t ≡ false → r ≡ pick (is_zero (wire x)) (Ok (pos 0)) (Err Overflow) → r ≡ exact (x *ℤ z)
  large-second x r q h f = large-first x r q h f ∙ ap exact (*ℤ_comm z x)

module _ (x y : ℤ) (p : SFits w64 x) (q : SFits w64 y) where
  pub product-fits : (s t : Bool) → s ≡ inside (negsuc 2147483647) (pos 2147483648) (wire x) → s ≡ true
      → t ≡ inside (negsuc 2147483647) (pos 2147483648) (wire y) → t ≡ true → SFits w64 (wire x *ℤ wire y)
  product-fits s t e h f k = rw (to_z-of_z p, to_z-of_z q) (small-fits x y (is-small x s p e h) (is-small y t q f k))

  pub product_is : (r : Num) → SFits w64 (wire x *ℤ wire y) → r ≡ exact (wire (wire x *ℤ wire y)) → r ≡ exact (x *ℤ y)
  product_is r f e = e ∙ ap exact (to_z-of_z f ∙ rw (to_z-of_z p, to_z-of_z q))

pub square_is : (x : ℤ) (r : Num) → SFits w64 x → r ≡ exact (wire x *ℤ wire x) → r ≡ exact (x *ℤ x)
square_is x r p e = rw (to_z-of_z p) at e

size-negative : (x : ℤ) → lt_z x (pos 0) ≡ true → neg_ℤ x ≡ pos (nat_abs x)
size-negative (pos a) h = absurd (not-suc-le-zero (ltb-true a 0 h))
size-negative (negsuc a) h = refl

pub size-other : (x : ℤ) → lt_z x (pos 0) ≡ false → x ≡ pos (nat_abs x)
size-other (pos a) h = refl
size-other (negsuc a) h = absurd (true≢false h)

module _ (x : ℤ) (r : Num) (p : SFits w64 x) where
  pub abs-negative : lt_z (wire x) (pos 0) ≡ true → r ≡ exact (neg_ℤ (wire x)) → r ≡ exact (pos (nat_abs x))
  abs-negative h e = rw (to_z-of_z p) at e ∙ ap exact (size-negative x (rw (to_z-of_z p) at h))

  pub abs-other : lt_z (wire x) (pos 0) ≡ false → r ≡ exact (wire x) → r ≡ exact (pos (nat_abs x))
  abs-other h e = rw (to_z-of_z p) at e ∙ ap exact (size-other x (rw (to_z-of_z p) at h))

pub ruleset large_laws = (times_zero, times_more)

pub ruleset mul_laws = (large-first, large-second, product-fits, product_is)

pub ruleset abs_laws = (abs-negative, abs-other)
