-- A store that may be lent, and what an answer with the two lists says of a machine.
use Rattle.std.specs.Prelude.{List, ◌⊎◌, ◌≡◌, ℕ, ◌-◌, ◌≤◌, ℤ, pos, length, get_or, take}
use Rattle.law.specs.Machine as Machine
use Rattle.law_answers.specs.declared.Answer.{Answer}
use Rattle.law_answers.specs.RunReports.{outcome_of}
use Rattle.code_calc.specs.Words.{InRange}

-- a store that rows 10 and 11 let pass, as far as a run needs it: lists of one length, a cell defined with a value, or undefined with 0
pub record Lent (vs : List ℤ) (ms : List ℕ) : Type 0 where
  pub even : length ms ≡ length vs
  pub few : length vs ≤ 2048
  pub cells : (a : ℕ) → ((get_or ms a 0 ≡ 1) × InRange (get_or vs a (pos 0))) ⊎ ((get_or ms a 0 ≡ 0) × (get_or vs a (pos 0) ≡ pos 0))

-- the answer z of a machine that was given n cells and so many steps
pub record Answers (z : Machine.Answer) (n budget : ℕ) (r : Answer) (vs' : List ℤ) (ms' : List ℕ) : Type 0 where
  pub outcome : outcome_of r.outcome ≡ z.outcome
  pub steps : r.steps ≡ budget - z.state.left
  pub values : vs' ≡ take n z.state.store.values
  pub marks : ms' ≡ take n z.state.store.marks
