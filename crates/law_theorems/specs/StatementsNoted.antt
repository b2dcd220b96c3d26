-- A run that notes a statement of the script with an exception. The laws are in proofs/.
use Rattle.std.specs.Prelude.{◌≤◌}
use Rattle.law.specs.Machine.{Answer, State}

-- the statement that is noted stays at most 4,096
pub record Notes (f : State → Answer) : Type 0 where
  pub at : (s : State) → s.store.place ≤ 4096 → (f s).state.store.place ≤ 4096
