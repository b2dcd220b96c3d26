-- The control variables of the loops around, as a list of numbers, the outermost first, and how many there are.
use Rattle.std.specs.Prelude.{◌≡◌, Bool, false, cond, ◌||◌, List, ℕ, zero, suc, ◌+◌, eqb, ltb, length, get_or, set, replicate}
use Rattle.law.specs.Rules.{looping}
use Rattle.table_scope.specs.declared.Loops.{Loops}

-- no loop
unfoldable pub no_loops : Loops
no_loops = record { count = 0; over = replicate 33 0 }

-- a count, as far as the list goes
unfoldable pub listed_loops : ℕ → ℕ
listed_loops n = cond (ltb n 33) n 33

-- i is one of the first n numbers
unfoldable pub among : List ℕ → ℕ → ℕ → Bool
among is zero i = false
among is (suc n) i = eqb i (get_or is n 0) || among is n i

-- a loop is over variable i
unfoldable pub loops_over : Loops → ℕ → Bool
loops_over m i = among m.over (listed_loops m.count) i

-- a loop over variable i besides, where there is room for it
unfoldable pub with_loop : Loops → ℕ → Loops
with_loop m i = cond (ltb m.count 33) (record { count = m.count + 1; over = set m.over m.count i }) m

-- the loops around have the control variables js, the innermost first
pub record InForce (m : Loops) (js : List ℕ) : Type 0 where
  pub in-force : (i : ℕ) → loops_over m i ≡ looping i js
  pub counted : m.count ≡ length js
  pub long : length m.over ≡ 33
