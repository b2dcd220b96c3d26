-- The order of the integers by differences: x is at most y where y - x is not negative, so adding a number to both keeps the order.
-- Assumes nothing.
use mathlib.Core.Path.{◌≡◌, refl, sym, ap, ◌∙◌}
use mathlib.Core.Bool.{Bool, true, false, not, cond, false≢true}
use mathlib.Core.Logic.{◌⊎◌, inl, inr}
use Prim.Native.Nat.{ℕ, zero, suc, ◌-◌, ◌≤◌, ◌<◌}
use native.Mathlib.Nat.{lt_of_not-le, le_of_lt}
use native.Mathlib.Decide.{dec_le}
use native.Mathlib.Omega.{arith}
use borrow.Author.Tests.{leb-true, leb-false, ltb-true, ltb-false, le-leb, not-true, not-false}
use lib.Dec.{leb, ltb, leb-zero, leb-suc-zero, leb-suc-suc}
use lib.IntN.{ℤ, pos, negsuc, neg_ℤ, suc_ℤ, sub_ℕ, ◌+ℤ◌, ◌-ℤ◌, +ℤ_one, +ℤ_idl, +ℤ_assoc, +ℤ_comm, +ℤ_invr, neg_ℤ-+ℤ, +ℤ-neg_ℤ_cancel, -ℤ-+ℤ_cancel}
use lib.Signed.{lt_z, le_z, non_neg}

pub le-or-lt : (a b : ℕ) → (a ≤ b) ⊎ (b < a)
le-or-lt a b = of (dec_le a b)
  where
    of : Dec (a ≤ b) → (a ≤ b) ⊎ (b < a)
    of (yes h) = inl h
    of (no n) = inr (lt_of_not-le n)

-- b - a is not negative exactly where a is at most b
sub-non_neg : (a b : ℕ) → non_neg (sub_ℕ b a) ≡ leb a b
sub-non_neg a b = of (ltb b a) (leb a b) refl refl
  where
    of : (t u : Bool) → ltb b a ≡ t → leb a b ≡ u → non_neg (cond t (negsuc (a - suc b)) (pos (b - a))) ≡ u
    of true true p q = absurd (omega (arith, ltb-true b a p, leb-true a b q))
    of true false p q = refl
    of false true p q = refl
    of false false p q = absurd (omega (arith, ltb-false b a p, leb-false a b q))

pub le_z-diff : (x y : ℤ) → le_z x y ≡ non_neg (y -ℤ x)
le_z-diff (pos zero) (pos b) = leb-zero b
le_z-diff (pos (suc a)) (pos b) = sym (sub-non_neg (suc a) b)
le_z-diff (pos zero) (negsuc b) = sym (sub-non_neg (suc b) zero ∙ leb-suc-zero b)
le_z-diff (pos (suc a)) (negsuc b) = refl
le_z-diff (negsuc a) (pos b) = refl
le_z-diff (negsuc a) (negsuc b) = sym (sub-non_neg (suc b) (suc a) ∙ leb-suc-suc b a)

-- the strict order is the other one, turned and negated
ltb-not : (a b : ℕ) → ltb a b ≡ not (leb b a)
ltb-not a b = of (ltb a b) (leb b a) refl refl
  where
    of : (t u : Bool) → ltb a b ≡ t → leb b a ≡ u → t ≡ not u
    of true true p q = absurd (omega (arith, ltb-true a b p, leb-true b a q))
    of true false p q = refl
    of false true p q = refl
    of false false p q = absurd (omega (arith, ltb-false a b p, leb-false b a q))

pub lt_not_le : (x y : ℤ) → lt_z x y ≡ not (le_z y x)
lt_not_le (pos a) (pos b) = ltb-not a b
lt_not_le (pos a) (negsuc b) = refl
lt_not_le (negsuc a) (pos b) = refl
lt_not_le (negsuc a) (negsuc b) = ltb-not b a

pub le_z-refl : (x : ℤ) → le_z x x ≡ true
le_z-refl x = le_z-diff x x ∙ ap non_neg (+ℤ_invr x)

non_neg-add : (u v : ℤ) → non_neg u ≡ true → non_neg v ≡ true → non_neg (u +ℤ v) ≡ true
non_neg-add (pos a) (pos b) h k = refl
non_neg-add (pos a) (negsuc b) h k = absurd (false≢true k)
non_neg-add (negsuc a) v h k = absurd (false≢true h)

pub le_z-trans : (x y z : ℤ) → le_z x y ≡ true → le_z y z ≡ true → le_z x z ≡ true
le_z-trans x y z h k =
    le_z-diff x z ∙ ap non_neg (sym (ap (λ u. u -ℤ x) (-ℤ-+ℤ_cancel z y)) ∙ +ℤ_assoc (z -ℤ y) y (neg_ℤ x))
    ∙ non_neg-add (z -ℤ y) (y -ℤ x) (sym (le_z-diff y z) ∙ k) (sym (le_z-diff x y) ∙ h)

-- ---- the same number added to both sides

pub le-shift : (x y z : ℤ) → le_z (x +ℤ z) (y +ℤ z) ≡ le_z x y
le-shift x y z = le_z-diff (x +ℤ z) (y +ℤ z) ∙ ap non_neg same ∙ sym (le_z-diff x y)
  where
    same : (y +ℤ z) -ℤ (x +ℤ z) ≡ y -ℤ x
    same =
        ap (λ u. (y +ℤ z) +ℤ u) (neg_ℤ-+ℤ x z ∙ +ℤ_comm (neg_ℤ x) (neg_ℤ z)) ∙ sym (+ℤ_assoc (y +ℤ z) (neg_ℤ z) (neg_ℤ x))
        ∙ ap (λ u. u -ℤ x) (+ℤ-neg_ℤ_cancel y z)

pub lt-shift : (x y z : ℤ) → lt_z (x +ℤ z) (y +ℤ z) ≡ lt_z x y
lt-shift x y z = lt_not_le (x +ℤ z) (y +ℤ z) ∙ ap not (le-shift y x z) ∙ sym (lt_not_le x y)

-- a number taken to the other side
pub lt-moved : (x y m : ℤ) → lt_z x (m -ℤ y) ≡ lt_z (x +ℤ y) m
lt-moved x y m = sym (lt-shift x (m -ℤ y) y) ∙ ap (lt_z (x +ℤ y)) (-ℤ-+ℤ_cancel m y)

pub moved-lt : (x y m : ℤ) → lt_z (m -ℤ y) x ≡ lt_z m (x +ℤ y)
moved-lt x y m = sym (lt-shift (m -ℤ y) x y) ∙ ap (λ u. lt_z u (x +ℤ y)) (-ℤ-+ℤ_cancel m y)

-- ---- from one order to the other

pub lt-le : (x y : ℤ) → lt_z x y ≡ true → le_z x y ≡ true
lt-le (pos a) (pos b) h = le-leb a b (le_of_lt (ltb-true a b h))
lt-le (pos a) (negsuc b) h = h
lt-le (negsuc a) (pos b) h = h
lt-le (negsuc a) (negsuc b) h = le-leb b a (le_of_lt (ltb-true b a h))

pub lt_not : (x y : ℤ) → lt_z x y ≡ true → le_z y x ≡ false
lt_not x y h = not-true (le_z y x) (sym (lt_not_le x y) ∙ h)

pub not-lt : (x y : ℤ) → lt_z x y ≡ false → le_z y x ≡ true
not-lt x y h = not-false (le_z y x) (sym (lt_not_le x y) ∙ h)

pub le_not : (x y : ℤ) → le_z x y ≡ true → lt_z y x ≡ false
le_not x y h = lt_not_le y x ∙ ap not h

pub not-le : (x y : ℤ) → le_z x y ≡ false → lt_z y x ≡ true
not-le x y h = lt_not_le y x ∙ ap not h

-- x + 1 is at most y where x is below y
suc-le : (x y : ℤ) → le_z (suc_ℤ x) y ≡ lt_z x y
suc-le (pos a) (pos b) = refl
suc-le (pos a) (negsuc b) = refl
suc-le (negsuc zero) (pos b) = leb-zero b
suc-le (negsuc zero) (negsuc b) = sym (leb-suc-zero b)
suc-le (negsuc (suc a)) (pos b) = refl
suc-le (negsuc (suc a)) (negsuc b) = sym (leb-suc-suc b a)

pub up_le : (x y : ℤ) → le_z (x +ℤ pos 1) y ≡ lt_z x y
up_le x y = ap (λ u. le_z u y) (+ℤ_one x) ∙ suc-le x y

pub le_down : (x y : ℤ) → le_z x (y -ℤ pos 1) ≡ lt_z x y
le_down x y = sym (le-shift x (y -ℤ pos 1) (pos 1)) ∙ ap (le_z (x +ℤ pos 1)) (-ℤ-+ℤ_cancel y (pos 1)) ∙ up_le x y

-- a summand at or below 0 raises no sum, and one at or above 0 lowers none
pub add_low : (x y : ℤ) → le_z y (pos 0) ≡ true → le_z (x +ℤ y) x ≡ true
add_low x y h = ap (λ u. le_z u x) (+ℤ_comm x y) ∙ sym (ap (le_z (y +ℤ x)) (+ℤ_idl x)) ∙ le-shift y (pos 0) x ∙ h

pub add-high : (x y : ℤ) → le_z (pos 0) y ≡ true → le_z x (x +ℤ y) ≡ true
add-high x y h = ap (le_z x) (+ℤ_comm x y) ∙ sym (ap (λ u. le_z u (y +ℤ x)) (+ℤ_idl x)) ∙ le-shift (pos 0) y x ∙ h
