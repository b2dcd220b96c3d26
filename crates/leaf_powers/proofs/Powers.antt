-- Powers: that `pow_z` is the repeated product, that `power` is its exact result, and the laws of `halved` and `raise`. A half
-- power, or its square, that is out of range means that the whole power is. Assumes nothing.
use mathlib.Core.Path.{◌≡◌, refl, sym, ap, subst, ◌∙◌}
use mathlib.Core.Bool.{Bool, true, false, ◌&&◌, ◌||◌, and-false}
use mathlib.Core.Logic.{◌⊎◌, inl, inr, ⊎_elim}
use Prim.Native.Nat.{ℕ, zero, suc, ◌+◌, ◌*◌, ◌/◌, ◌%◌, ◌≤◌, ◌^◌}
use native.Mathlib.Nat.{pow-zero, pow-suc, pow-le-pow_left, pow-le-pow_right, mul-le-mul, le_trans, le_of_eq, mul-one, zero-mul, not-suc-le-zero}
use native.Mathlib.Numerals.{add-one}
use native.Mathlib.Omega.{arith}
use borrow.Author.Tests.{leb-false, ltb-true}
use lib.Dec.{T, leb}
use lib.Pow.{pow-add}
use lib.IntN.{ℤ, pos, negsuc, neg_ℤ, nat_abs, ◌*ℤ◌}
use lib.Signed.{mag, lt_z, non_neg}
use mir.Syntax.{w64}
use mir.Val.{SFits, Fits, of_z}
use mir.Facts.{to_z-of_z, Fits-nat_abs}
use Rattle.leaf_integers.specs.Integers.{least, most, inside, exact, is_zero}
use Rattle.leaf_powers.specs.Powers.{signed, pow_z, small, power}
use Rattle.leaf_integers.specs.declared.Fault.{Fault}
use Rattle.leaf_integers.specs.declared.Fault.TheVariants.{Overflow, Exponent}
use Rattle.leaf_integers.specs.Integers.{Num}
use Rattle.std.specs.Prelude.{Ok, Err}
use Rattle.leaf_integers.proofs.Order.{le-or-lt}
use Rattle.leaf_integers.proofs.Ranges.{Narrow, pick_yes, pick_no, pick-value, value-fault, is-zero, not-zero, exact-in, exact-out, exact-value, exact-narrow, exact-fault}
use Rattle.leaf_integers.proofs.Machine.{wire, fits-mag, zero_bits}
use Rattle.leaf_integers.proofs.Products.{abs_neg, abs-below, large-out, size-other}

-- ---- `pow_z` is the repeated product

pub power-none : (x : ℤ) → pow_z x 0 ≡ pos 1
unfolding pow_z signed
power-none (pos a) = ap pos (pow-zero a)
power-none (negsuc a) = ap pos (pow-zero (suc a))

-- the last binary digit
bit : (n : ℕ) → (n % 2 ≡ 0) ⊎ (n % 2 ≡ 1)
bit n = ⊎_elim (λ l. inl (omega arith)) (λ g. inr (omega arith)) (le-or-lt (n % 2) 0)

pub power-more : (x : ℤ) (n : ℕ) → pow_z x (suc n) ≡ pow_z x n *ℤ x
unfolding pow_z signed
power-more (pos a) n = ap pos (pow-suc a n)
power-more (negsuc a) n = rw (pow-suc (suc a) n) (⊎_elim (λ e. up e (omega arith)) (λ e. down e (omega arith) (suc a ^ n)) (bit n))
  where
    up : n % 2 ≡ 0 → suc n % 2 ≡ 1 → signed (suc n % 2) (suc a ^ n * suc a) ≡ signed (n % 2) (suc a ^ n) *ℤ negsuc a
    up e f = rw (e, f)

    flip : (p : ℕ) → pos (p * suc a) ≡ neg_ℤ (pos p) *ℤ negsuc a
    flip zero = rw (zero-mul (suc a))
    flip (suc p) = refl

    down : n % 2 ≡ 1 → suc n % 2 ≡ 0 → (p : ℕ) → signed (suc n % 2) (p * suc a) ≡ signed (n % 2) p *ℤ negsuc a
    down e f p = rw (e, f) (flip p)

-- ---- sizes

neg-square : (p : ℕ) → neg_ℤ (pos p) *ℤ neg_ℤ (pos p) ≡ pos (p * p)
neg-square zero = refl
neg-square (suc p) = refl

signed-square : (d p : ℕ) → signed d p *ℤ signed d p ≡ pos (p * p)
unfolding signed
signed-square zero p = refl
signed-square (suc d) p = neg-square p

abs-signed : (d p : ℕ) → nat_abs (signed d p) ≡ p
unfolding signed
abs-signed zero p = refl
abs-signed (suc d) p = abs_neg p

square : (x : ℤ) (h : ℕ) → pow_z x h *ℤ pow_z x h ≡ pos (nat_abs x ^ h * nat_abs x ^ h)
unfolding pow_z
square (pos a) h = refl
square (negsuc a) h = signed-square (h % 2) (suc a ^ h)

pub abs-pow : (x : ℤ) (n : ℕ) → nat_abs (pow_z x n) ≡ nat_abs x ^ n
unfolding pow_z
abs-pow (pos a) n = refl
abs-pow (negsuc a) n = abs-signed (n % 2) (suc a ^ n)

one-pow : (h : ℕ) → 1 ^ h ≡ 1
one-pow zero = pow-zero 1
one-pow (suc h) = pow-suc 1 h ∙ mul-one (1 ^ h) ∙ one-pow h

-- a power above 1 has a base above 1
base : (m h : ℕ) → 2 ≤ m ^ h → 2 ≤ m
base m h l = ⊎_elim (λ s. absurd (clash (m ^ h) (le_trans (pow-le-pow_left s h) (le_of_eq (one-pow h))) l)) (λ g. g) (le-or-lt m 1)
  where
    clash : (k : ℕ) → k ≤ 1 → 2 ≤ k → ⊥
    clash k a b = omega arith

-- ---- `power` is the exact result

-- an exponent past 31 leaves the integers unless the base is -1, 0 or 1
pub powers-exact : (x : ℤ) (n : ℕ) → small (leb n 31 || leb (nat_abs x) 1) x n ≡ exact (pow_z x n)
unfolding small
powers-exact x n = of (leb n 31) (leb (nat_abs x) 1) refl refl
  where
    of : (s t : Bool) → leb n 31 ≡ s → leb (nat_abs x) 1 ≡ t → small (s || t) x n ≡ exact (pow_z x n)
    of true t e f = refl
    of false true e f = refl
    of false false e f =
        let l : 2 ^ 32 ≤ 2 ^ n = pow-le-pow_right (omega arith) (leb-false n 31 e) in
        sym (large-out (pow_z x n) (omega (arith, l, pow-le-pow_left (leb-false (nat_abs x) 1 f) n, abs-pow x n)))

not_zeros : (x : ℤ) (n : ℕ) → (x ≡ pos 0 → n ≡ 0 → ⊥) → (is_zero x && is_zero (pos n)) ≡ false
not_zeros x zero h = ap (λ (t : Bool). t && is_zero (pos 0)) (not-zero x (λ e. h e refl))
not_zeros x (suc n) h = ap (◌&&◌ (is_zero x)) (not-zero (pos (suc n)) (λ e. absurd (omega (arith, ap nat_abs e)))) ∙ and-false (is_zero x)

pub power-is : (x : ℤ) (n : ℕ) → (x ≡ pos 0 → n ≡ 0 → ⊥) → power x (pos n) ≡ exact (pow_z x n)
unfolding power
power-is x n h =
    pick_no (is_zero x && is_zero (pos n)) (Err Exponent) (small (leb n 31 || leb (nat_abs x) 1) x n) (not_zeros x n h)
    ∙ powers-exact x n

pub power-zeros : (x : ℤ) (n : ℕ) → x ≡ pos 0 → n ≡ 0 → power x (pos n) ≡ Err Exponent
unfolding power
power-zeros x n e f =
    pick_yes (is_zero x && is_zero (pos n)) (Err Exponent) (small (leb n 31 || leb (nat_abs x) 1) x n)
    (ap (λ (t : Bool). t && is_zero (pos n)) (is-zero x e) ∙ is-zero (pos n) (ap pos f))

pub power-negative : (x n : ℤ) → lt_z n (pos 0) ≡ true → power x n ≡ Err Exponent
unfolding power
power-negative x (pos n) h = absurd (not-suc-le-zero (ltb-true n 0 h))
power-negative x (negsuc n) h = refl

-- a value is in range, and is the power
pub power-value : (x n v : ℤ) → power x n ≡ Ok v → (inside least most v ≡ true) × (pow_z x (nat_abs n) ≡ v)
unfolding power
power-value x (pos n) v h =
    exact-value (pow_z x n) v
    (sym (powers-exact x n) ∙ (pick-value (is_zero x && is_zero (pos n)) (small (leb n 31 || leb (nat_abs x) 1) x n) Exponent v h).1)
power-value x (negsuc n) v h = absurd (value-fault (sym h))

-- ---- the step by half the exponent

even-split : (n : ℕ) → n % 2 ≡ 0 → n ≡ n / 2 + n / 2
even-split n e = omega arith

odd-split : (n : ℕ) → n % 2 ≡ 1 → n ≡ n / 2 + n / 2 + 1
odd-split n e = omega arith

pow_even : (m n : ℕ) → n % 2 ≡ 0 → m ^ n ≡ m ^ (n / 2) * m ^ (n / 2)
pow_even m n e = ap (λ (k : ℕ). m ^ k) (even-split n e) ∙ pow-add m (n / 2) (n / 2)

pow-odd : (m n : ℕ) → n % 2 ≡ 1 → m ^ n ≡ m ^ (n / 2) * m ^ (n / 2) * m
pow-odd m n e =
    ap (λ (k : ℕ). m ^ k) (odd-split n e ∙ add-one (n / 2 + n / 2)) ∙ pow-suc m (n / 2 + n / 2)
    ∙ ap (λ (k : ℕ). k * m) (pow-add m (n / 2) (n / 2))

even : (x : ℤ) (n : ℕ) → n % 2 ≡ 0 → pow_z x n ≡ pow_z x (n / 2) *ℤ pow_z x (n / 2)
unfolding pow_z signed
even (pos a) n e = ap pos (pow_even a n e)
even (negsuc a) n e = rw (e, square (negsuc a) (n / 2)) (ap pos (pow_even (suc a) n e))

odd : (x : ℤ) (n : ℕ) → n % 2 ≡ 1 → pow_z x n ≡ pow_z x (n / 2) *ℤ pow_z x (n / 2) *ℤ x
unfolding pow_z signed
odd (pos a) n e = ap pos (pow-odd a n e)
odd (negsuc a) n e = rw (e, square (negsuc a) (n / 2)) (ap (λ (k : ℕ). neg_ℤ (pos k)) (pow-odd (suc a) n e))

fault-half : (x : ℤ) (n : ℕ) → 2147483648 ≤ mag (pow_z x (n / 2)) → exact (pow_z x n) ≡ Err Overflow
fault-half x n e =
    let m = nat_abs x in let h = n / 2 in
    let q : 2147483648 ≤ m ^ h = le_trans e (le_trans (abs-below (pow_z x h)) (le_of_eq (abs-pow x h))) in
    let two : 2 ≤ m = base m h (le_trans (omega arith) q) in
    let up : m ^ (h + h) ≤ m ^ n = pow-le-pow_right (omega arith) (omega arith) in
    let sq : 2147483648 * 2147483648 ≤ m ^ h * m ^ h = mul-le-mul q q in
    large-out (pow_z x n) (rw (abs-pow x n) (omega (arith, pow-add m h h)))

fault-square : (x : ℤ) (n : ℕ) → 2147483648 ≤ mag (pow_z x (n / 2) *ℤ pow_z x (n / 2)) → exact (pow_z x n) ≡ Err Overflow
fault-square x n e = ⊎_elim (λ z. exact-out (pow_z x n) (rw (even x n z) e)) odd-case (bit n)
  where
    odd-case : n % 2 ≡ 1 → exact (pow_z x n) ≡ Err Overflow
    odd-case o =
        let m = nat_abs x in let h = n / 2 in
        let q : 2147483648 ≤ m ^ h * m ^ h = rw (square x h) at e in
        let two : 2 ≤ m = base m (h + h) (omega (arith, pow-add m h h)) in
        let up : 2147483648 * 2 ≤ m ^ h * m ^ h * m = mul-le-mul q two in
        large-out (pow_z x n) (rw (abs-pow x n, pow-odd m n o) (omega arith))

narrow-fits : (z : ℤ) → Narrow z → SFits w64 z
narrow-fits z h = fits-mag z (omega arith)

-- ---- the laws of `halved`, with each number as its local holds it

pub halved_none : (x : ℤ) (n : ℕ) → n ≡ 0 → Ok (pos 1) ≡ exact (pow_z x n)
halved_none x n e = rw (e, power-none x) (sym (exact-in (pos 1) (omega arith)))

-- r is what the call at half the exponent gave
module _ (x : ℤ) (n : ℕ) (p : SFits w64 x) (r : Num) (hr : r ≡ exact (pow_z (wire x) (n / 2))) where
  half_is : r ≡ exact (pow_z x (n / 2))
  half_is = rw (to_z-of_z p) at hr

  pub half-fault : (f : Fault) → r ≡ Err f → Err f ≡ exact (pow_z x n)
  half-fault f e = let w = exact-fault (pow_z x (n / 2)) f (sym half_is ∙ e) in ap Err (sym w.1) ∙ sym (fault-half x n w.0)

  -- q is what its square gave
  module _ (v : ℤ) (rv : r ≡ Ok v) (q : Num) (hq : q ≡ exact (wire v *ℤ wire v)) where
    square-of : q ≡ exact (pow_z x (n / 2) *ℤ pow_z x (n / 2))
    square-of =
        let w = exact-narrow (pow_z x (n / 2)) v (sym half_is ∙ rv) in
        hq ∙ ap (λ (z : ℤ). exact (z *ℤ z)) (to_z-of_z (narrow-fits v w.0) ∙ sym w.1)

    pub square-fault : (f : Fault) → q ≡ Err f → Err f ≡ exact (pow_z x n)
    square-fault f e = let w = exact-fault (pow_z x (n / 2) *ℤ pow_z x (n / 2)) f (sym square-of ∙ e) in ap Err (sym w.1) ∙ sym (fault-square x n w.0)

    module _ (s : ℤ) (qs : q ≡ Ok s) where
      squared : Narrow s × (pow_z x (n / 2) *ℤ pow_z x (n / 2) ≡ s)
      squared = exact-narrow (pow_z x (n / 2) *ℤ pow_z x (n / 2)) s (sym square-of ∙ qs)

      pub even-done : n % 2 ≡ 0 → Ok (wire s) ≡ exact (pow_z x n)
      even-done z = ap Ok (to_z-of_z (narrow-fits s squared.0)) ∙ sym qs ∙ square-of ∙ ap exact (sym (even x n z))

      pub odd-done : (u : Num) → (n % 2 ≡ 0 → ⊥) → u ≡ exact (wire s *ℤ wire x) → u ≡ exact (pow_z x n)
      odd-done u z e =
          e ∙ ap (λ (k : ℤ). exact (k *ℤ wire x)) (to_z-of_z (narrow-fits s squared.0) ∙ sym squared.1)
          ∙ ap (λ (k : ℤ). exact (pow_z x (n / 2) *ℤ pow_z x (n / 2) *ℤ k)) (to_z-of_z p)
          ∙ ap exact (sym (odd x n (⊎_elim (λ o. absurd (z o)) (λ o. o) (bit n))))

-- ---- the laws of `raise`

module _ (x n : ℤ) (p : SFits w64 x) (q : SFits w64 n) where
  pub raise-negative : lt_z (wire n) (pos 0) ≡ true → Err Exponent ≡ power x n
  raise-negative h = sym (power-negative x n (rw (to_z-of_z q) at h))

  pub raise-zeros : of_z w64 n ≡ 0 → of_z w64 x ≡ 0 → Err Exponent ≡ power x n
  raise-zeros e f = rw (zero_bits n q e) (sym (power-zeros x 0 (zero_bits x p f) refl))

  pub raise-is : (r : Num) → lt_z (wire n) (pos 0) ≡ false → (of_z w64 n ≡ 0 → of_z w64 x ≡ 0 → ⊥) → r ≡ exact (pow_z (wire x) (nat_abs (wire n)))
      → r ≡ power x n
  raise-is r h f e =
      let k = size-other n (rw (to_z-of_z q) at h) in
      rw (to_z-of_z p, to_z-of_z q) at e ∙ sym (power-is x (nat_abs n) (λ z w. f (ap (of_z w64) (k ∙ ap pos w)) (ap (of_z w64) z))) ∙ ap (power x) (sym k)

pub raise_cast : (n : ℤ) → SFits w64 n → lt_z (wire n) (pos 0) ≡ false → T (non_neg (wire n)) × Fits w64 (nat_abs (wire n))
raise_cast n q h = rw (to_z-of_z q) (subst (λ (z : ℤ). T (non_neg z)) (sym (size-other n (rw (to_z-of_z q) at h))) tt, Fits-nat_abs tt q)

pub ruleset halved_laws = (halved_none, half-fault, square-fault, even-done, odd-done)

pub ruleset raise_laws = (raise-negative, raise-zeros, raise-is, raise_cast)
