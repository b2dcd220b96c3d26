-- An i64 as a need shows it: `wire z` is z read back from its bits, which is z where z fits. Assumes nothing.
use mathlib.Core.Path.{◌≡◌, sym, ap, ◌∙◌}
use mathlib.Core.Bool.{true}
use Prim.Native.Nat.{◌≤◌, ◌<◌}
use native.Mathlib.Omega.{arith}
use borrow.Author.Tests.{le-leb, leb-true}
use lib.IntN.{ℤ, pos, negsuc, nat_abs}
use lib.Signed.{mag, le_z, nat_abs-le}
use mir.Syntax.{w64}
use mir.Val.{SFits, to_z, of_z}
use mir.Facts.{to_z-of_z}
use Rattle.leaf_integers.proofs.Ranges.{inside_both, inside_is, inside-mag}

abbrev pub wire : ℤ → ℤ
wire z = to_z w64 (of_z w64 z)

-- the least and the greatest i64
abbrev pub low : ℤ
low = negsuc 9223372036854775807

abbrev pub high : ℤ
high = pos 9223372036854775807

pub fits-mag : (z : ℤ) → mag z < 9223372036854775808 → SFits w64 z
fits-mag z h = record { sfits = h }

pub fits-between : (z : ℤ) → le_z low z ≡ true → le_z z high ≡ true → SFits w64 z
fits-between z h k =
    fits-mag z (omega (arith, leb-true (mag z) 9223372036854775807 (sym (inside-mag 9223372036854775807 z) ∙ inside_both low high z h k)))

pub fits-bounds : (z : ℤ) → SFits w64 z → (le_z low z ≡ true) × (le_z z high ≡ true)
fits-bounds z p =
    let h : mag z < 9223372036854775808 = p.sfits in
    inside_is low high z (inside-mag 9223372036854775807 z ∙ le-leb (mag z) 9223372036854775807 (omega arith))

pub fits-abs : (z : ℤ) → SFits w64 z → nat_abs z ≤ 9223372036854775808
fits-abs z p = nat_abs-le z p.sfits

-- two numbers of the type with the same bits are the same
pub same_bits : (y k : ℤ) → SFits w64 y → SFits w64 k → of_z w64 y ≡ of_z w64 k → y ≡ k
same_bits y k p q e = sym (to_z-of_z p) ∙ ap (to_z w64) e ∙ to_z-of_z q

pub zero_bits : (y : ℤ) → SFits w64 y → of_z w64 y ≡ 0 → y ≡ pos 0
zero_bits y p e = same_bits y (pos 0) p (fits-mag (pos 0) (omega arith)) e
