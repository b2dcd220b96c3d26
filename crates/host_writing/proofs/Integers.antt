-- The sizes of integers.
use mathlib.Core.Path.{◌≡◌, refl, sym, ap, ◌∙◌}
use mathlib.Core.Bool.{Bool, cond, true, false, true≢false}
use Prim.Native.Nat.{ℕ, zero, suc, ◌+◌, ◌-◌, ◌<◌}
use native.Mathlib.Omega.{arith}
use borrow.Author.Tests.{le-ltb}
use lib.Signed.{lt_z}
use lib.IntN.{ℤ, pos, negsuc, nat_abs, ◌-ℤ◌}
use mir.Syntax.{w64}
use mir.Val.{SFits, Fits}
use mir.Facts.{to_z-of_z}
use Rattle.leaf_integers.proofs.Machine.{wire, fits-mag}
use Rattle.host_writing.specs.Written.{natural_of, turn_of}

negative : (z : ℤ) → lt_z z (pos 0) ≡ true → 0 ≡ natural_of z
unfolding natural_of
negative (pos n) h = absurd (true≢false (sym h ∙ le-ltb n 0 (omega arith)))
negative (negsuc n) h = refl

natural-abs : (z : ℤ) → lt_z z (pos 0) ≡ false → nat_abs z ≡ natural_of z
unfolding natural_of
natural-abs (pos n) h = refl
natural-abs (negsuc n) h = absurd (true≢false h)

module _ (z : ℤ) (f : SFits w64 z) where
  pub natural-none : lt_z (wire z) (pos 0) ≡ true → 0 ≡ natural_of z
  natural-none h = negative z (rw (to_z-of_z f) at h)

  pub natural-is : lt_z (wire z) (pos 0) ≡ false → nat_abs (wire z) ≡ natural_of z
  natural-is h = rw (to_z-of_z f) (natural-abs z (rw (to_z-of_z f) at h))

turn_is : (z : ℤ) → negsuc 0 -ℤ z ≡ turn_of z
unfolding turn_of
turn_is (pos zero) = refl
turn_is (pos (suc n)) = ap (λ (k : ℕ). negsuc (suc k)) (omega arith)
turn_is (negsuc n) = ap (λ (t : Bool). cond t (negsuc (1 - suc (suc n))) (pos (suc n - 1))) (le-ltb (suc n) 1 (omega arith)) ∙ ap pos (omega arith)

turn-fits : (z : ℤ) → SFits w64 z → SFits w64 (turn_of z)
unfolding turn_of
turn-fits (pos n) f = fits-mag (negsuc n) f.sfits
turn-fits (negsuc n) f = fits-mag (pos n) f.sfits

pub turned-fits : (z : ℤ) → SFits w64 z → SFits w64 (negsuc 0 -ℤ wire z)
turned-fits z f = rw (to_z-of_z f, turn_is z) (turn-fits z f)

pub turned-is : (z : ℤ) → SFits w64 z → wire (negsuc 0 -ℤ wire z) ≡ turn_of z
turned-is z f = rw (to_z-of_z f, turn_is z) (to_z-of_z (turn-fits z f))

natural-low : (z : ℤ) → SFits w64 z → natural_of z < 9223372036854775808
unfolding natural_of
natural-low (pos n) f = f.sfits
natural-low (negsuc n) f = omega arith

pub below-room : (z : ℤ) (r : ℕ) → SFits w64 z → r ≡ natural_of z → Fits w64 (r + 1)
below-room z r f e = record { fits = rw e (omega (arith, natural-low z f)) }

pub below-is : (z : ℤ) (t : ℤ) (r : ℕ) → t ≡ turn_of z → r ≡ natural_of t → r + 1 ≡ natural_of (turn_of z) + 1
below-is z t r e h = rw (h, e)

pub below-wire : (z t : ℤ) (r : ℕ) → SFits w64 t → SFits w64 z → t ≡ turn_of (wire z) → r ≡ natural_of (wire t) → r + 1 ≡ natural_of (turn_of z) + 1
below-wire z t r f g e h = below-is z t r (e ∙ ap turn_of (to_z-of_z g)) (h ∙ ap natural_of (to_z-of_z f))

pub below-inner : (z t : ℤ) (r : ℕ) → SFits w64 t → t ≡ turn_of z → r ≡ natural_of (wire t) → r + 1 ≡ natural_of (turn_of z) + 1
below-inner z t r f e h = below-is z t r e (h ∙ ap natural_of (to_z-of_z f))

pub ruleset below_laws = (below-is, below-wire, below-inner, below-room)
