-- How many `for` loops stand in code. A measure of 16 for each (Measure), so that an accepted text has at most 1,024.
use mathlib.Core.Path.{◌≡◌, refl}
use mathlib.Core.List.{List, [], ◌∷◌}
use Prim.Native.Nat.{ℕ, ◌+◌, ◌*◌}
use native.Mathlib.Omega.{arith}
use lib.ListN.{length}
use Rattle.law.specs.Code.{BodyCode}
use Rattle.code.proofs.Measure.{Measure, total}
use Rattle.code.specs.ForLoops.{fors_act, fors_acts, fors_cases}

-- of all bodies
unfoldable pub fors_bodies : List BodyCode → ℕ
fors_bodies [] = 0
fors_bodies (b ∷ bs) = fors_acts b.acts + fors_acts b.handler + fors_bodies bs

unfoldable pub of_fors : Measure
unfolding fors_act
of_fors = record {
  code = λ c. 0;
  place = λ p. 0;
  codes = λ cs. 0;
  arguments = λ cs. 0;
  labels = λ zs. 0;
  act = λ a. 16 * fors_act a;
  acts = λ bs. 16 * fors_acts bs;
  cases = λ cs. 16 * fors_cases cs;
  of-literal = λ z. omega arith;
  of_number = omega arith;
  of-set = λ lo hi cs. omega arith;
  of-calculate = λ o a b. omega arith;
  of-short = λ q a b. omega arith;
  of-calculate1 = λ o a. omega arith;
  of-cell = λ a. omega arith;
  of-index = λ p c lo hi k. omega arith;
  of_shift = λ p k. omega arith;
  load_cell = λ a n. omega arith;
  load-index = λ p c lo hi k n. omega arith;
  load-shift = λ p k n. omega arith;
  no-codes = omega arith;
  one_code = λ c cs. omega arith;
  no_arguments = omega arith;
  one_argument = λ c cs. omega arith;
  no-labels = omega arith;
  one_label = λ z zs. omega arith;
  of-ordinal = λ n p lo hi c. omega arith;
  of-set-cell = λ n p c. omega arith;
  of-copy = λ n p q k. omega arith;
  of-sequence = λ n bs. omega arith;
  of-branch = λ n c a b. omega arith;
  of-while = λ n c a. omega arith;
  of-for = λ n i lo hi x y a. omega arith;
  of-case = λ n c cs. omega arith;
  of-call = λ n p cs. omega arith;
  of-raise = λ n c. omega arith;
  of-nothing = omega arith;
  no-acts = omega arith;
  one-act = λ a bs. omega arith;
  of-else = λ a. omega arith;
  no-arms = omega arith;
  one_arm = λ ls a cs. omega arith;
}

pub total-fors : (bs : List BodyCode) → total of_fors bs ≡ 16 * fors_bodies bs + 8 * length bs
unfolding total of_fors fors_bodies
total-fors [] = refl
total-fors (b ∷ bs) = rw (total-fors bs) (omega arith)
