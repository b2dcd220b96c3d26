-- The same of the answer of a run by the marking machine, which may stick.
use Rattle.std.specs.Prelude.{List, ◌≡◌, ℕ, ℤ, Result, Ok, Err}
use Rattle.law.specs.Machine as Machine
use Rattle.law.specs.Machine.{normal, spent, sticks, raised}
use Rattle.law.specs.Whole as Whole
use Rattle.law.specs.Whole.{refusal, ran}
use Rattle.law_answers.specs.declared.Ending.{Ending}
use Rattle.law_answers.specs.declared.Ending.TheVariants.{Normal, Raised, Spent, Stuck}
use Rattle.law_answers.specs.declared.Marked.{Marked}
use Rattle.law_answers.specs.declared.Refusal.{Refusal}

-- document 01's outcomes by the cases of ours: an exception has its number and its statement
unfoldable pub mark_outcome : Ending → Machine.Outcome
mark_outcome Normal = normal
mark_outcome (Raised z p) = raised z p
mark_outcome Spent = spent
mark_outcome Stuck = sticks

-- document 01's endings by the cases of ours: a refusal's number and line, or the outcome and the steps
unfoldable pub mark_ending : Result Marked Refusal → Whole.Ending
mark_ending (Err e) = refusal e.number e.line
mark_ending (Ok a) = ran (mark_outcome a.ending) a.steps

-- the answer and both lists are what q reports
pub record MarkReports (q : Whole.Report) (r : Result Marked Refusal) (vs' : List ℤ) (ms' : List ℕ) : Type 0 where
  pub ending : mark_ending r ≡ q.ending
  pub values : vs' ≡ q.values
  pub marks : ms' ≡ q.marks
