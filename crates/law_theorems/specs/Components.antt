-- Two stretches of cells. The laws are in proofs/.
use Rattle.std.specs.Prelude.{◌≡◌, ℕ, ◌+◌, ◌≤◌}

-- k cells from a on and from b on: the same, or none in common
pub data Aside (a b k : ℕ) : Type 0 where
  same : a ≡ b → Aside a b k
  below : a + k ≤ b → Aside a b k
  above : b + k ≤ a → Aside a b k
