-- Sums, differences and products that leave an i64 leave the integers too; an opposite number is a difference. Assumes nothing.
use mathlib.Core.Path.{◌≡◌, sym, ap, ◌∙◌}
use mathlib.Core.Logic.{⊎_elim}
use native.Mathlib.Omega.{arith}
use lib.IntN.{ℤ, pos, neg_ℤ, ◌-ℤ◌, +ℤ_idl}
use lib.Signed.{mag}
use mir.Syntax.{w64}
use mir.Val.{SFits}
use mir.Facts.{to_z-of_z}
use Rattle.std.specs.Prelude.{Err}
use Rattle.leaf_integers.specs.Integers.{Num, exact}
use Rattle.leaf_integers.specs.declared.Fault.TheVariants.{Overflow}
use Rattle.leaf_integers.proofs.Order.{le-or-lt}
use Rattle.leaf_integers.proofs.Ranges.{exact-out}
use Rattle.leaf_integers.proofs.Machine.{wire, fits-mag}

pub past_out : (z : ℤ) → (SFits w64 z → ⊥) → Err Overflow ≡ exact z
past_out z f = ⊎_elim (λ h. sym (exact-out z h)) (λ l. absurd (f (fits-mag z (omega arith)))) (le-or-lt 2147483648 (mag z))

pub opposite_is : (x : ℤ) (r : Num) → SFits w64 x → r ≡ exact (pos 0 -ℤ wire x) → r ≡ exact (neg_ℤ x)
opposite_is x r p e = e ∙ ap exact (+ℤ_idl (neg_ℤ (wire x)) ∙ rw (to_z-of_z p))
