-- The tests and casts of a 64-bit signed number z. A signed local holds bits, so a test speaks of what is read back from them. Assumes nothing.
use mathlib.Core.Path.{◌≡◌, refl, ap}
use mathlib.Core.Bool.{true, false, false≢true, true≢false}
use Prim.Native.Nat.{ℕ, ◌^◌, ◌≤◌, ◌<◌}
use native.Mathlib.Nat.{div-le_self, mod-lt, lt_of_le_of_lt, not-suc-le-zero}
use native.Mathlib.Omega.{arith}
use borrow.Author.Tests.{ltb-true, ltb-false}
use lib.Dec.{T, lit<}
use lib.IntN.{ℤ, pos, negsuc, nat_abs}
use lib.Signed.{lt_z, non_neg, quot_z, rem_z}
use mir.Syntax.{w32, w64}
use mir.Val.{SFits, Fits, to_z, of_z}
use mir.Facts.{to_z-of_z, to_z_pos, Fits-of_lt}
use Rattle.leaf_sets.specs.Sets.{pattern_of}

-- z as it is read back from its bits
abbrev pub wire : ℤ → ℤ
wire z = to_z w64 (of_z w64 z)

-- z is not in 0 to m
abbrev pub Outside : ℕ → ℤ → Type 0
Outside m (pos n) = m < n
Outside m (negsuc n) = Unit {0}

negative : (z : ℤ) (m : ℕ) → lt_z z (pos 0) ≡ true → Outside m z
negative (pos n) m e = absurd (not-suc-le-zero (ltb-true n 0 e))
negative (negsuc n) m e = tt

past : (z : ℤ) (m : ℕ) → lt_z (pos m) z ≡ true → Outside m z
past (pos n) m e = ltb-true m n e
past (negsuc n) m e = absurd (false≢true e)

between : (z : ℤ) (m : ℕ) → lt_z z (pos 0) ≡ false → lt_z (pos m) z ≡ false → T (non_neg z) × (nat_abs z ≤ m) × (z ≡ pos (nat_abs z))
between (pos n) m e f = (tt, ltb-false m n f, refl)
between (negsuc n) m e f = absurd (true≢false e)

-- ---- what is left of z below 2 ^ 32

pub pattern_lt : (z : ℤ) → pattern_of z < 2 ^ 32
unfolding pattern_of
pattern_lt (pos n) = mod-lt n (lit< tt)
pattern_lt (negsuc n) = lit< tt

nothing : (z : ℤ) → lt_z z (pos 0) ≡ true → 0 ≡ pattern_of z
unfolding pattern_of
nothing (pos n) e = absurd (not-suc-le-zero (ltb-true n 0 e))
nothing (negsuc n) e = refl

remainder : (z : ℤ) → lt_z z (pos 0) ≡ false → rem_z z (pos 4294967296) ≡ pos (pattern_of z)
unfolding pattern_of
remainder (pos n) e = refl
remainder (negsuc n) e = absurd (true≢false e)

quotient_fits : (z : ℤ) → SFits w64 z → lt_z z (pos 0) ≡ false → SFits w64 (quot_z z (pos 4294967296))
quotient_fits (pos n) h e = record { sfits = lt_of_le_of_lt (div-le_self n 4294967296) h.sfits }
quotient_fits (negsuc n) h e = absurd (true≢false e)

-- ---- the same of what is read back

module _ (z : ℤ) (h : SFits w64 z) where
  pub pattern-none : lt_z (wire z) (pos 0) ≡ true → 0 ≡ pattern_of z
  pattern-none e = nothing z (rw (to_z-of_z h) at e)

  pub outside-negative : (m : ℕ) → lt_z (wire z) (pos 0) ≡ true → Outside m z
  outside-negative m e = negative z m (rw (to_z-of_z h) at e)

  pub outside-past : (m : ℕ) → lt_z (pos m) (wire z) ≡ true → Outside m z
  outside-past m e = past z m (rw (to_z-of_z h) at e)

  module _ (e : lt_z (wire z) (pos 0) ≡ false) where
    pub pattern-divides : (0 < 4294967296) × SFits w64 (quot_z (wire z) (pos 4294967296))
    pattern-divides = (lit< tt, rw (to_z-of_z h) (quotient_fits z h (rw (to_z-of_z h) at e)))

    pattern-read : wire (rem_z (wire z) (pos 4294967296)) ≡ pos (pattern_of z)
    pattern-read =
        rw (to_z-of_z h, remainder z (rw (to_z-of_z h) at e)) (to_z_pos w64 (omega (arith, pattern_lt z)))

    pub pattern-fits : T (non_neg (wire (rem_z (wire z) (pos 4294967296)))) × Fits w32 (nat_abs (wire (rem_z (wire z) (pos 4294967296))))
    pattern-fits = rw pattern-read (tt, Fits-of_lt (pattern_lt z))

    pub pattern-is : nat_abs (wire (rem_z (wire z) (pos 4294967296))) ≡ pattern_of z
    pattern-is = ap nat_abs pattern-read

    -- z is in 0 to m: it is the number that it is cast to
    module _ (m : ℕ) (f : lt_z (pos m) (wire z) ≡ false) where
      pub reach : T (non_neg (wire z)) × (nat_abs (wire z) ≤ m) × (z ≡ pos (nat_abs (wire z)))
      reach = rw (to_z-of_z h) (between z m (rw (to_z-of_z h) at e) (rw (to_z-of_z h) at f))

      cast : m < 2 ^ 32 → T (non_neg (wire z)) × Fits w32 (nat_abs (wire z))
      cast l = (reach.0, Fits-of_lt (omega (arith, reach.1)))

    pub cast-pattern : lt_z (pos 4294967295) (wire z) ≡ false → T (non_neg (wire z)) × Fits w32 (nat_abs (wire z))
    cast-pattern f = cast 4294967295 f (lit< tt)

    -- an ordinal of a set, which a pattern may be shifted by
    module _ (f : lt_z (pos 31) (wire z) ≡ false) where
      pub cast-ordinal : T (non_neg (wire z)) × Fits w32 (nat_abs (wire z))
      cast-ordinal = cast 31 f (lit< tt)

      pub ordinal-lt : nat_abs (wire z) < 32
      ordinal-lt = omega (arith, (reach 31 f).1)

pub ruleset pattern_laws = (pattern-none, pattern-divides, pattern-fits, pattern-is)

pub ruleset ordinal_laws = (outside-negative, outside-past, cast-pattern, cast-ordinal, ordinal-lt)
