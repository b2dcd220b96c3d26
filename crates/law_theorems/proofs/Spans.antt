-- Spans of integers: the rounds of a `for`, and the places of an array's elements.
use mathlib.Core.Path.{◌≡◌, sym, ap, ◌∙◌}
use mathlib.Core.Bool.{true}
use Prim.Native.Nat.{ℕ, zero, suc, ◌<◌}
use native.Mathlib.Omega.{arith}
use borrow.Author.Tests.{le-leb}
use lib.IntN.{ℤ, pos, negsuc, ◌+ℤ◌, ◌-ℤ◌, neg_ℤ, suc_ℤ, +ℤ_assoc, neg_ℤ-+ℤ, -ℤ-+ℤ_cancel}
use lib.Signed.{le_z, non_neg}
use Rattle.leaf_integers.specs.Integers.{inside}
use Rattle.leaf_integers.proofs.Order.{le_z-diff, le_z-trans, add-high}
use Rattle.leaf_integers.proofs.Ranges.{inside_both, inside_is}
use Rattle.law.specs.Calculate.{nat_of}

within-size : (d : ℤ) (j : ℕ) → j < nat_of (suc_ℤ d) → le_z (pos j) d ≡ true
within-size (pos e) j h = le-leb j e (omega arith)
within-size (negsuc zero) j h = absurd (omega arith)
within-size (negsuc (suc n)) j h = absurd (omega arith)

-- the j-th number from x on is at most y, for each j of the span
span-le : (x y : ℤ) (j : ℕ) → j < nat_of (suc_ℤ (y -ℤ x)) → le_z (x +ℤ pos j) y ≡ true
span-le x y j h =
    le_z-diff (x +ℤ pos j) y ∙ ap non_neg (ap (λ u. y +ℤ u) (neg_ℤ-+ℤ x (pos j)) ∙ sym (+ℤ_assoc y (neg_ℤ x) (neg_ℤ (pos j))))
    ∙ sym (le_z-diff (pos j) (y -ℤ x)) ∙ within-size (y -ℤ x) j h

-- a number of the span between two that are inside is inside
pub span-inside : (lo hi x y : ℤ) (j : ℕ) → inside lo hi x ≡ true → inside lo hi y ≡ true → j < nat_of (suc_ℤ (y -ℤ x)) → inside lo hi (x +ℤ pos j) ≡ true
span-inside lo hi x y j hx hy h =
    inside_both lo hi (x +ℤ pos j)
    (le_z-trans lo x (x +ℤ pos j) (inside_is lo hi x hx).0 (add-high x (pos j) (within-size (pos j) 0 (omega arith))))
    (le_z-trans (x +ℤ pos j) y hi (span-le x y j h) (inside_is lo hi y hy).1)

-- a number that is inside has its place in the span
within-span : (u w : ℤ) → non_neg u ≡ true → non_neg w ≡ true → nat_of u < nat_of (suc_ℤ (w +ℤ u))
within-span (pos a) (pos b) h k = omega arith
within-span (pos a) (negsuc b) h k = let z : ◌≡◌ {A = ℕ} 0 1 = cc in absurd (omega arith)
within-span (negsuc a) w h k = let z : ◌≡◌ {A = ℕ} 0 1 = cc in absurd (omega arith)

pub inside-span : (lo hi z : ℤ) → inside lo hi z ≡ true → nat_of (z -ℤ lo) < nat_of (suc_ℤ (hi -ℤ lo))
inside-span lo hi z h =
    let p = inside_is lo hi z h in
    let e : (hi -ℤ z) +ℤ (z -ℤ lo) ≡ hi -ℤ lo = sym (+ℤ_assoc (hi -ℤ z) z (neg_ℤ lo)) ∙ ap (λ u. u -ℤ lo) (-ℤ-+ℤ_cancel hi z) in
    rw (← e) (within-span (z -ℤ lo) (hi -ℤ z) (sym (le_z-diff lo z) ∙ p.0) (sym (le_z-diff z hi) ∙ p.1))
