-- How a statement of the marking machine ends, as one word: as the runner's do (mark_steps, Ends and Stands), or it sticks.
use Rattle.std.specs.Prelude.{◌≡◌, List, ℕ, ◌+◌, ◌%◌, ◌≤◌, ltb, ℤ}
use Rattle.law.specs.Base.{pick}
use Rattle.law.specs.Machine.{Store, State, state, Answer, Outcome, sticks}
use Rattle.mark_steps.specs.Ends.{left_in, told_by, fault_in, Raises}
use Rattle.mark_steps.specs.Stands.{Stands}
use Rattle.code_calc.specs.Words.{no_result}

-- three times 4294967296 is added to the steps left where it sticks
unfoldable pub mark_told : ℕ → List ℤ → Outcome
mark_told w ws = pick (ltb w 12884901888) (told_by w ws) sticks

unfoldable pub stuck_word : ℕ → ℕ
stuck_word left = 12884901888 + left % 4294967296

-- the answer a is what the words ws and the word w say
pub record MarkEnds (a : Answer) (ws : List ℤ) (w : ℕ) : Type 0 where
  pub outcome : a.outcome ≡ mark_told w ws
  pub stands : Stands ws (left_in w) a.state.store
  pub left : a.state.left ≡ left_in w

-- from ws, with so many steps left, the machine f comes to ws' and the word r
pub record MarkRuns (f : State → Answer) (ws : List ℤ) (left : ℕ) (ws' : List ℤ) (r : ℕ) : Type 0 where
  pub says : (m : Store) → Stands ws left m → MarkEnds (f (state m left)) ws' r

-- the end by the word of no value, in statement n
pub record Halts (w : ℤ) (n : ℕ) (ws : List ℤ) (left : ℕ) (ws' : List ℤ) (r : ℕ) : Type 0 where
  pub stays : w ≡ no_result → (ws' ≡ ws) × (r ≡ stuck_word left)
  pub raises : ((w ≡ no_result) → ⊥) → Raises (fault_in w) n ws left ws' r
  pub fewer : left_in r ≤ left
