-- The numbers of a line's statements. The laws are in proofs/.
use Rattle.std.specs.Prelude.{ℕ, ◌≤◌}

pub record Number (l n : ℕ) : Type 0 where
  pub from : 1 ≤ n
  pub to : n ≤ l
