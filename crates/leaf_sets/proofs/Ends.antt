-- Members are in order, so all of them lie in lo to hi when the least is not below lo and the greatest not above hi. Assumes nothing.
use mathlib.Core.Path.{◌≡◌, refl, sym, ap, ◌∙◌}
use mathlib.Core.Bool.{Bool, true, false, cond, ◌&&◌, and-eq-true_iff, and-true, and-false, false≢true}
use mathlib.Core.List.{List, [], ◌∷◌}
use Prim.Native.Nat.{ℕ, zero, suc, ◌-◌, ◌^◌, ◌≤◌, ◌<◌}
use native.Mathlib.Nat.{le_refl}
use native.Mathlib.Omega.{arith}
use borrow.Author.Tests.{le-leb, leb-true}
use lib.Count.{count_trailing_zeros, count_leading_zeros, trailing_le}
use lib.IntN.{ℤ, pos, negsuc}
use lib.Signed.{le_z}
use mir.Syntax.{w64}
use mir.Val.{SFits, to_z}
use mir.Facts.{to_z-of_z, to_z_pos}
use Rattle.leaf_sets.specs.Sets.{those, bit, members, least, greatest, all, all_in}
use Rattle.std.specs.Prelude.{Some}
use Rattle.leaf_sets.proofs.Digits.{members-are}
use Rattle.leaf_sets.proofs.Counts.{no_member, none_is, min-is, max-is}
use Rattle.leaf_sets.proofs.Signed.{wire}
use Rattle.leaf_sets.proofs.Base.{in_base}

-- ---- lists in order

-- none below i, and each above the one before
abbrev Rising : ℕ → List ℕ → Type 0
Rising i [] = Unit {0}
Rising i (x ∷ l) = (i ≤ x) × Rising (suc x) l

sooner : (i : ℕ) (l : List ℕ) → Rising (suc i) l → Rising i l
sooner i [] r = tt
sooner i (x ∷ l) r = (omega (arith, r.0), r.1)

those-rise : (f : ℕ → Bool) (i k : ℕ) → Rising i (those f i k)
unfolding those
those-rise f i zero = tt
those-rise f i (suc k) = of (f i) (those-rise f (suc i) k)
  where
    of : (b : Bool) → Rising (suc i) (those f (suc i) k) → Rising i (cond b (i ∷ those f (suc i) k) (those f (suc i) k))
    of true r = (le_refl i, r)
    of false r = sooner i (those f (suc i) k) r

-- ---- bounds

above : (lo : ℤ) (x y : ℕ) → le_z lo (pos x) ≡ true → x ≤ y → le_z lo (pos y) ≡ true
above (pos a) x y e l = le-leb a y (omega (arith, leb-true a x e))
above (negsuc a) x y e l = refl

under : (hi : ℤ) (x y : ℕ) → le_z (pos y) hi ≡ true → x ≤ y → le_z (pos x) hi ≡ true
under (pos a) x y e l = le-leb x a (omega (arith, leb-true y a e))
under (negsuc a) x y e l = absurd (false≢true e)

implied : (a b : Bool) → (a ≡ true → b ≡ true) → a ≡ (b && a)
implied true b f = sym (rw (f refl))
implied false b f = sym (and-false b)

-- ---- the two ends

zeros-below : (s : ℕ) → count_trailing_zeros 32 s < 2 ^ 63
zeros-below s = omega (arith, trailing_le 32 s)

pub zeros-fit : (s : ℕ) → SFits w64 (pos (count_trailing_zeros 32 s))
zeros-fit s = record { sfits = zeros-below s }

zeros-read : (s : ℕ) → to_z w64 (count_trailing_zeros 32 s) ≡ pos (count_trailing_zeros 32 s)
zeros-read s = to_z_pos w64 (zeros-below s)

last-read : (s : ℕ) → to_z w64 (31 - count_leading_zeros 32 s) ≡ pos (31 - count_leading_zeros 32 s)
last-read s = to_z_pos w64 (omega arith)

module _ (lo hi : ℤ) where
  last-high : (x y : ℕ) (l : List ℕ) → Rising (suc x) l → le_z lo (pos x) ≡ true → Some y ≡ greatest (x ∷ l)
      → le_z (pos y) hi ≡ all (in_base lo hi) (x ∷ l)
  unfolding greatest all
  last-high x y [] r p e = let q : y ≡ x = cc in rw (p, q, and-true (le_z (pos x) hi))
  last-high x y (z ∷ l) r p e =
      let rest = last-high z y l r.1 (above lo x z p (omega (arith, r.0))) e in
      let next : le_z (pos y) hi ≡ true → le_z (pos z) hi ≡ true =
      λ t. ((and-eq-true_iff (le_z lo (pos z)) (le_z (pos z) hi)).0
      ((and-eq-true_iff (in_base lo hi z) (all (in_base lo hi) l)).0 (sym rest ∙ t)).0).1 in
      rw p (implied (le_z (pos y) hi) (le_z (pos x) hi) (λ t. under hi x z (next t) (omega (arith, r.0))) ∙ ap (λ (b : Bool). le_z (pos x) hi && b) rest)

  first-low : (x : ℕ) (l : List ℕ) → Some x ≡ least l → le_z lo (pos x) ≡ false → false ≡ all_in lo hi l
  unfolding least all_in all
  first-low x [] e t = absurd (no_member x (sym e))
  first-low x (y ∷ l) e t = let q : x ≡ y = cc in rw (rw q at t)

  ends : (x y : ℕ) (l : List ℕ) → Rising 0 l → Some x ≡ least l → Some y ≡ greatest l → le_z lo (pos x) ≡ true → le_z (pos y) hi ≡ all_in lo hi l
  unfolding least all_in
  ends x y [] r e f t = absurd (no_member x (sym e))
  ends x y (z ∷ l) r e f t = let q : x ≡ z = cc in last-high z y l r.1 (rw q at t) f

  module _ (s : ℕ) (h : s < 2 ^ 32) where
    pub base-none : s ≡ 0 → true ≡ all_in lo hi (members s)
    unfolding all_in all
    base-none e = rw (none_is s h e)

    module _ (n : (s ≡ 0) → ⊥) (fl : SFits w64 lo) where
      -- the tests speak of numbers read back from their bits
      pub base-low : le_z (wire lo) (to_z w64 (count_trailing_zeros 32 s)) ≡ false → le_z (wire lo) (to_z w64 (count_trailing_zeros 32 s)) ≡ all_in lo hi (members s)
      base-low t = t ∙ first-low (count_trailing_zeros 32 s) (members s) (min-is s h n) (rw (zeros-read s, to_z-of_z fl) at t)

      pub base-ends : SFits w64 hi → le_z (wire lo) (to_z w64 (count_trailing_zeros 32 s)) ≡ true
          → le_z (to_z w64 (31 - count_leading_zeros 32 s)) (wire hi) ≡ all_in lo hi (members s)
      base-ends fh t =
          rw (last-read s, to_z-of_z fh)
          (ends (count_trailing_zeros 32 s) (31 - count_leading_zeros 32 s) (members s) (rw (members-are s) (those-rise (bit s) 0 32))
          (min-is s h n) (max-is s h n) (rw (zeros-read s, to_z-of_z fl) at t))

pub ruleset base_laws = (zeros-fit, base-none, base-low, base-ends)
