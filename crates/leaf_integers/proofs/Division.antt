-- Quotient, modulus and oddness: what their definitions say, and the laws of `div`, `modulo` and `odd`. Assumes nothing.
use mathlib.Core.Path.{◌≡◌, refl, sym, ap, ◌∙◌, subst⁻¹}
use mathlib.Core.Bool.{true, false, not, true≢false, false≢true}
use mathlib.Core.Logic.{⊎_elim}
use Prim.Native.Nat.{ℕ, zero, suc, ◌+◌, ◌*◌, ◌-◌, ◌/◌, ◌%◌, ◌≤◌, ◌<◌}
use native.Mathlib.Nat.{not-suc-le-zero, le_of_suc-le-suc, le_of_lt, le_trans, lt_trans, le-suc, zero-lt-suc, eq-or-lt_of_le, div-le_self, div-lt_self, div-one, div-add-mod', mod-lt, mod_self, mod-eq_of_lt, suc-mod, suc-mul}
use native.Mathlib.Omega.{arith}
use borrow.Author.Tests.{ltb-true, lt-ltb, le-ltb}
use lib.Dec.{eqb, lit<, leb-zero}
use lib.IntN.{ℤ, pos, negsuc, neg_ℤ, nat_abs, ◌+ℤ◌, ◌-ℤ◌, ◌*ℤ◌, pos-ne-negsuc, neg_ℤ-+ℤ, -ℤ-+ℤ_cancel}
use lib.Signed.{mag, mag_rem, lt_z, le_z, quot_z, rem_z}
use mir.Syntax.{w64}
use mir.Val.{SFits, of_z}
use mir.Facts.{to_z-of_z}
use Rattle.leaf_integers.specs.Integers.{least, most, inside, exact, is_zero, quotient, modℕ, modulus, is_odd}
use Rattle.leaf_integers.specs.declared.Fault.TheVariants.{Divisor}
use Rattle.leaf_integers.specs.Integers.{Num}
use Rattle.std.specs.Prelude.{Ok, Err}
use Rattle.leaf_integers.proofs.Order.{le_z-trans, le_down, add_low}
use Rattle.leaf_integers.proofs.Ranges.{inside_both, inside_is, pick_yes, pick_no, pick-value, same-value, is-zero, not-zero, exact-value}
use Rattle.leaf_integers.proofs.Machine.{wire, fits-mag, same_bits, zero_bits}

-- ---- the quotient

pub quotient-none : (x y : ℤ) → y ≡ pos 0 → quotient x y ≡ Err Divisor
unfolding quotient
quotient-none x y h = pick_yes (is_zero y) (Err Divisor) (exact (quot_z x y)) (is-zero y h)

pub quotient_is : (x y : ℤ) → (y ≡ pos 0 → ⊥) → quotient x y ≡ exact (quot_z x y)
unfolding quotient
quotient_is x y h = pick_no (is_zero y) (Err Divisor) (exact (quot_z x y)) (not-zero y h)

-- a value is in range, and is the quotient
pub quotient-value : (x y v : ℤ) → quotient x y ≡ Ok v → (inside least most v ≡ true) × (quot_z x y ≡ v)
unfolding quotient
quotient-value x y v h = exact-value (quot_z x y) v (pick-value (is_zero y) (exact (quot_z x y)) Divisor v h).1

mag-neg : (r a : ℕ) → r ≤ suc a → mag (neg_ℤ (pos r)) ≤ a
mag-neg zero a h = omega arith
mag-neg (suc r) a h = le_of_suc-le-suc h

-- only a division by -1 can grow a size
mag-quot : (x y : ℤ) → (y ≡ negsuc 0 → ⊥) → mag (quot_z x y) ≤ mag x
mag-quot (pos a) (pos b) n = div-le_self a b
mag-quot (pos a) (negsuc b) n = mag-neg (a / suc b) a (le_trans (div-le_self a (suc b)) (le-suc a))
mag-quot (negsuc a) (pos b) n = mag-neg (suc a / b) a (div-le_self (suc a) b)
mag-quot (negsuc a) (negsuc zero) n = absurd (n refl)
mag-quot (negsuc a) (negsuc (suc b)) n = le_of_suc-le-suc (div-lt_self (zero-lt-suc a) (omega arith))

quot_fits : (x y : ℤ) → SFits w64 x → (y ≡ negsuc 0 → ⊥) → SFits w64 (quot_z x y)
quot_fits x y p n = let h : mag x < 9223372036854775808 = p.sfits in fits-mag (quot_z x y) (omega (arith, mag-quot x y n))

quot-opposite : (x : ℤ) → quot_z x (negsuc 0) ≡ neg_ℤ x
quot-opposite (pos a) = ap (λ (k : ℕ). neg_ℤ (pos k)) (div-one a)
quot-opposite (negsuc a) = ap pos (div-one (suc a))

above_zero : (n : ℕ) → (n ≡ 0 → ⊥) → 0 < n
above_zero n f = omega arith

module _ (x y : ℤ) (p : SFits w64 x) (q : SFits w64 y) where
  pub div-none : of_z w64 y ≡ 0 → Err Divisor ≡ quotient x y
  div-none h = sym (quotient-none x y (zero_bits y q h))

  pub div-opposite : (r : Num) → (of_z w64 y ≡ 0 → ⊥) → of_z w64 y ≡ 18446744073709551615 → r ≡ exact (neg_ℤ (wire x)) → r ≡ quotient x y
  div-opposite r n h e =
      rw (to_z-of_z p) at e ∙ ap exact (sym (quot-opposite x) ∙ ap (quot_z x) (sym (same_bits y (negsuc 0) q (fits-mag (negsuc 0) (omega arith)) h)))
      ∙ sym (quotient_is x y (λ z. n (ap (of_z w64) z)))

  module _ (n : of_z w64 y ≡ 0 → ⊥) (m : of_z w64 y ≡ 18446744073709551615 → ⊥) where
    other_fits : SFits w64 (quot_z x y)
    other_fits = quot_fits x y p (λ e. m (ap (of_z w64) e))

    pub div_fits : (0 < of_z w64 y) × SFits w64 (quot_z (wire x) (wire y))
    div_fits = (above_zero (of_z w64 y) n, rw (to_z-of_z p, to_z-of_z q) other_fits)

    pub div_is : (r : Num) → r ≡ exact (wire (quot_z (wire x) (wire y))) → r ≡ quotient x y
    div_is r e = rw (to_z-of_z p, to_z-of_z q, to_z-of_z other_fits) at e ∙ sym (quotient_is x y (λ z. n (ap (of_z w64) z)))

-- ---- the modulus: from 0 to n, and i less a multiple of n + 1

pub mod_below : (i : ℤ) (n : ℕ) → modℕ i (suc n) < suc n
unfolding modℕ
mod_below (pos a) n = mod-lt a (zero-lt-suc n)
mod_below (negsuc a) n = less (a % suc n)
  where
    less : (r : ℕ) → suc n - suc r < suc n
    less r = omega arith

pub mod-multiple : (i : ℤ) (n : ℕ) → (k : ℤ) × (i ≡ k *ℤ pos (suc n) +ℤ pos (modℕ i (suc n)))
unfolding modℕ
mod-multiple (pos a) n = (pos (a / suc n), ap pos (sym (div-add-mod' a (suc n))))
mod-multiple (negsuc a) n = (
  negsuc (a / suc n),
  sym (down (suc (a / suc n) * suc n) (suc n - suc (a % suc n)) a
      (suc-mul (a / suc n) (suc n) ∙ sum (a / suc n * suc n) (a % suc n) (div-add-mod' a (suc n)) (mod-lt a (zero-lt-suc n)))),
)
  where
    sum : (p r : ℕ) → p + r ≡ a → r < suc n → p + suc n ≡ suc a + (suc n - suc r)
    sum p r e l = omega arith

    down : (m s b : ℕ) → m ≡ suc b + s → neg_ℤ (pos m) +ℤ pos s ≡ negsuc b
    down m s b e = ap (λ (k : ℕ). neg_ℤ (pos k) +ℤ pos s) e ∙ ap (λ u. u +ℤ pos s) (neg_ℤ-+ℤ (pos (suc b)) (pos s)) ∙ -ℤ-+ℤ_cancel (negsuc b) (pos s)

pub modulus-none : (x y : ℤ) → le_z y (pos 0) ≡ true → modulus x y ≡ Err Divisor
unfolding modulus
modulus-none x y h = pick_yes (le_z y (pos 0)) (Err Divisor) (Ok (pos (modℕ x (nat_abs y)))) h

pub modulus-is : (x y : ℤ) → le_z y (pos 0) ≡ false → modulus x y ≡ Ok (pos (modℕ x (nat_abs y)))
unfolding modulus
modulus-is x y h = pick_no (le_z y (pos 0)) (Err Divisor) (Ok (pos (modℕ x (nat_abs y)))) h

mod-inside : (i j : ℤ) → le_z j (pos 0) ≡ false → inside (pos 0) (j -ℤ pos 1) (pos (modℕ i (nat_abs j))) ≡ true
mod-inside i (pos zero) h = absurd (true≢false h)
mod-inside i (pos (suc n)) h =
    let r = modℕ i (suc n) in
    inside_both (pos 0) (pos (suc n) -ℤ pos 1) (pos r) (leb-zero r) (le_down (pos r) (pos (suc n)) ∙ lt-ltb r (suc n) (mod_below i n))
mod-inside i (negsuc n) h = absurd (true≢false h)

-- a value lies in 0 to j - 1, so it is in range where j is
pub modulus-value : (i j v : ℤ) → modulus i j ≡ Ok v → inside (pos 0) (j -ℤ pos 1) v ≡ true
unfolding modulus
modulus-value i j v h =
    let w = pick-value (le_z j (pos 0)) (Ok (pos (modℕ i (nat_abs j)))) Divisor v h in
    ap (inside (pos 0) (j -ℤ pos 1)) (sym (same-value w.1)) ∙ mod-inside i j w.0

pub modulus-range : (i j v : ℤ) → inside least most j ≡ true → modulus i j ≡ Ok v → inside least most v ≡ true
modulus-range i j v k h =
    let w = inside_is (pos 0) (j -ℤ pos 1) v (modulus-value i j v h) in
    inside_both least most v (le_z-trans least (pos 0) v refl w.0)
    (le_z-trans v (j -ℤ pos 1) most w.1 (le_z-trans (j -ℤ pos 1) j most (add_low j (negsuc 0) refl) (inside_is least most j k).1))

-- ---- the machine's remainder, brought into 0 to n

-- (a + 1) modulo n + 1 is 0 where a modulo n + 1 is n, and else one more
suc-mod-top : (a n : ℕ) → suc (a % suc n) ≡ suc n → suc a % suc n ≡ 0
suc-mod-top a n e = suc-mod a (suc n) ∙ ap (λ (k : ℕ). k % suc n) e ∙ mod_self (suc n)

suc-mod-less : (a n : ℕ) → suc (a % suc n) < suc n → suc a % suc n ≡ suc (a % suc n)
suc-mod-less a n l = suc-mod a (suc n) ∙ mod-eq_of_lt l

-- a remainder that is not negative is the modulus
rem_is : (x y : ℤ) → le_z y (pos 0) ≡ false → lt_z (rem_z x y) (pos 0) ≡ false → rem_z x y ≡ pos (modℕ x (nat_abs y))
unfolding modℕ
rem_is (pos a) y s e = refl
rem_is (negsuc a) (pos zero) s e = absurd (true≢false s)
rem_is (negsuc a) (pos (suc n)) s e =
    ⊎_elim (λ t. ap (λ (k : ℕ). neg_ℤ (pos k)) (suc-mod-top a n t) ∙ ap pos (omega arith))
    (λ l. absurd (true≢false (rw (suc-mod-less a n l) at e))) (eq-or-lt_of_le (mod-lt a (zero-lt-suc n)))
rem_is (negsuc a) (negsuc n) s e = absurd (true≢false s)

-- a negative one is y too small
rem-up : (x y : ℤ) → le_z y (pos 0) ≡ false → lt_z (rem_z x y) (pos 0) ≡ true → rem_z x y +ℤ y ≡ pos (modℕ x (nat_abs y))
unfolding modℕ
rem-up (pos a) y s e = absurd (not-suc-le-zero (ltb-true (a % nat_abs y) 0 e))
rem-up (negsuc a) (pos zero) s e = absurd (true≢false s)
rem-up (negsuc a) (pos (suc n)) s e =
    ⊎_elim (λ t. absurd (false≢true (rw (suc-mod-top a n t) at e)))
    (λ l. ap (λ (k : ℕ). neg_ℤ (pos k) +ℤ pos (suc n)) (suc-mod-less a n l) ∙ rw (le-ltb (suc n) (suc (a % suc n)) (le_of_lt l)))
    (eq-or-lt_of_le (mod-lt a (zero-lt-suc n)))
rem-up (negsuc a) (negsuc n) s e = absurd (true≢false s)

positive : (y : ℤ) → le_z y (pos 0) ≡ false → (0 < of_z w64 y) × (y ≡ negsuc 0 → ⊥)
positive (pos zero) s = absurd (true≢false s)
positive (pos (suc n)) s = (zero-lt-suc n, pos-ne-negsuc (suc n) 0)
positive (negsuc n) s = absurd (true≢false s)

mod-fits : (x y : ℤ) → SFits w64 y → le_z y (pos 0) ≡ false → SFits w64 (pos (modℕ x (nat_abs y)))
mod-fits x (pos zero) q s = absurd (true≢false s)
mod-fits x (pos (suc n)) q s = fits-mag (pos (modℕ x (suc n))) (lt_trans (mod_below x n) q.sfits)
mod-fits x (negsuc n) q s = absurd (true≢false s)

module _ (x y : ℤ) (p : SFits w64 x) (q : SFits w64 y) where
  pub mod-none : le_z (wire y) (pos 0) ≡ true → Err Divisor ≡ modulus x y
  mod-none h = sym (modulus-none x y (rw (to_z-of_z q) at h))

  module _ (h : le_z (wire y) (pos 0) ≡ false) where
    s : le_z y (pos 0) ≡ false
    s = rw (to_z-of_z q) at h

    rem-fits : SFits w64 (rem_z x y)
    rem-fits = let k : mag x < 9223372036854775808 = p.sfits in fits-mag (rem_z x y) (omega (arith, mag_rem x y))

    pub mod_safe : (0 < of_z w64 y) × SFits w64 (quot_z (wire x) (wire y))
    mod_safe = let w = positive y s in (w.0, rw (to_z-of_z p, to_z-of_z q) (quot_fits x y p w.1))

    pub mod-is : lt_z (wire (rem_z (wire x) (wire y))) (pos 0) ≡ false → Ok (wire (rem_z (wire x) (wire y))) ≡ modulus x y
    mod-is e =
        rw (to_z-of_z p, to_z-of_z q, to_z-of_z rem-fits)
        (ap Ok (rem_is x y s (rw (to_z-of_z p, to_z-of_z q, to_z-of_z rem-fits) at e)) ∙ sym (modulus-is x y s))

    module _ (e : lt_z (wire (rem_z (wire x) (wire y))) (pos 0) ≡ true) where
      raised : rem_z x y +ℤ y ≡ pos (modℕ x (nat_abs y))
      raised = rem-up x y s (rw (to_z-of_z p, to_z-of_z q, to_z-of_z rem-fits) at e)

      raised-fits : SFits w64 (rem_z x y +ℤ y)
      raised-fits = subst⁻¹ (SFits w64) raised (mod-fits x y q s)

      pub mod-room : SFits w64 (wire (rem_z (wire x) (wire y)) +ℤ wire y)
      mod-room = rw (to_z-of_z p, to_z-of_z q, to_z-of_z rem-fits) raised-fits

      pub mod-up : Ok (wire (wire (rem_z (wire x) (wire y)) +ℤ wire y)) ≡ modulus x y
      mod-up = rw (to_z-of_z p, to_z-of_z q, to_z-of_z rem-fits, to_z-of_z raised-fits) (ap Ok raised ∙ sym (modulus-is x y s))

-- ---- oddness

digit : (r : ℕ) → r < 2 → (not (eqb r 0) ≡ eqb r 1) × (not (eqb (of_z w64 (neg_ℤ (pos r))) 0) ≡ eqb r 1)
digit zero h = (refl, refl)
digit (suc zero) h = (refl, refl)
digit (suc (suc r)) h = absurd (omega arith)

odd-test : (x : ℤ) → not (eqb (of_z w64 (rem_z x (pos 2))) 0) ≡ is_odd x
unfolding is_odd
odd-test (pos a) = (digit (a % 2) (mod-lt a (lit< tt))).0
odd-test (negsuc a) = (digit (suc a % 2) (mod-lt (suc a) (lit< tt))).1

module _ (x : ℤ) (p : SFits w64 x) where
  pub odd-safe : (0 < 2) × SFits w64 (quot_z (wire x) (pos 2))
  odd-safe = (zero-lt-suc 1, rw (to_z-of_z p) (quot_fits x (pos 2) p (pos-ne-negsuc 2 0)))

  pub odd_is : not (eqb (of_z w64 (rem_z (wire x) (pos 2))) 0) ≡ is_odd x
  odd_is = rw (to_z-of_z p) (odd-test x)

pub ruleset div_laws = (div-none, div-opposite, div_is)

pub ruleset mod_laws = (mod-none, mod-is, mod-room, mod-up)

pub ruleset odd_laws = (odd-safe, odd_is)
