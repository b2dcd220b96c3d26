-- A number of eighteen digits can be negated.
use Prim.Native.Nat.{ℕ, zero, suc, ◌<◌}
use native.Mathlib.Omega.{arith}
use lib.IntN.{ℤ, pos, negsuc, neg_ℤ, ◌-ℤ◌, +ℤ_idl}
use mir.Syntax.{w64}
use mir.Val.{SFits, to_z}
use mir.Facts.{to_z_pos}
use Rattle.leaf_integers.proofs.Machine.{fits-mag}

opposite-fits : (n : ℕ) → n < 1000000000000000000 → SFits w64 (neg_ℤ (pos n))
opposite-fits zero h = fits-mag (pos 0) (omega arith)
opposite-fits (suc n) h = fits-mag (negsuc n) (omega arith)

pub negated_fits : (n : ℕ) → n < 1000000000000000000 → SFits w64 (pos 0 -ℤ to_z w64 n)
negated_fits n h = rw (to_z_pos w64 {n = n} (omega arith), +ℤ_idl (neg_ℤ (pos n))) (opposite-fits n h)
