-- The values of a `for`.
use Rattle.std.specs.Prelude.{◌≡◌, true, ℤ, ◌-ℤ◌}
use Rattle.std.proofs.Math.IntN.{suc_ℤ}
use Rattle.std.specs.Int.Signed.{le_z, lt_z}
use Rattle.law.specs.Calculate.{nat_of}
use Rattle.law.specs.Machine as Machine
use Rattle.law.specs.Machine.{planned}
use Rattle.mark_steps.specs.declared.turns.Plan.{Plan}
use Rattle.mark_steps.specs.declared.turns.Plan.TheVariants.{NoRound, Outside, Rounds}

-- the next value of a control variable that has not come to y
pub record Increments (z y r : ℤ) : Type 0 where
  pub says : lt_z z y ≡ true → r ≡ suc_ℤ z

-- what is planned, where the rounds are from x to y
abbrev pub plan_from : ℤ → ℤ → Plan → Machine.Plan
plan_from x y NoRound = Machine.no_round
plan_from x y Outside = Machine.outside
plan_from x y Rounds = Machine.rounds (nat_of (suc_ℤ (y -ℤ x)))

-- the plan of a `for` from x to y over a variable of lo to hi
pub record Plans (lo hi x y : ℤ) (r : Plan) : Type 0 where
  pub says : planned lo hi x y ≡ plan_from x y r
  pub up : r ≡ Rounds → le_z x y ≡ true
