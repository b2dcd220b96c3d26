-- The ceilings of types as the tables keep them: bounds are integers, a set's are 0 to 31, a type has at most 2,048 cells. The laws are in proofs/.
use Rattle.std.specs.Prelude.{◌≡◌, true, ℕ, ◌≤◌, pos, length}
use Rattle.std.specs.Int.Signed.{le_z}
use Rattle.law.specs.Types.{TypeInfo, Types, info_at, is_set}
use Rattle.law_theorems.specs.ValuesInRange.{InInt}

pub record Small (j : TypeInfo) : Type 0 where
  pub low : InInt j.low
  pub high : InInt j.high
  pub base : is_set j.shape ≡ true → (le_z (pos 0) j.low ≡ true) × (le_z j.high (pos 31) ≡ true)
  pub cells : length j.cells ≤ 2048

abbrev pub SmallTypes : Types → Type 0
SmallTypes Γ = (t : ℕ) → Small (info_at Γ t)
