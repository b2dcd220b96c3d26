-- What the answer of a run says: document 01's outcome, its ending, and with both lists of the store its report (law, Whole).
use Rattle.std.specs.Prelude.{List, ◌≡◌, ℕ, ℤ, Result, Ok, Err}
use Rattle.law.specs.Machine as Machine
use Rattle.law.specs.Machine.{normal, spent, raised}
use Rattle.law.specs.Whole as Whole
use Rattle.law.specs.Whole.{Ending, refusal, ran}
use Rattle.law_answers.specs.declared.Outcome.{Outcome}
use Rattle.law_answers.specs.declared.Outcome.TheVariants.{Normal, Raised, Spent}
use Rattle.law_answers.specs.declared.Answer.{Answer}
use Rattle.law_answers.specs.declared.Refusal.{Refusal}

-- document 01's outcomes by the cases of ours: an exception has its number and its statement
unfoldable pub outcome_of : Outcome → Machine.Outcome
outcome_of Normal = normal
outcome_of (Raised z p) = raised z p
outcome_of Spent = spent

-- document 01's endings by the cases of ours: a refusal's number and line, or the outcome and the steps
unfoldable pub ending_of : Result Answer Refusal → Ending
ending_of (Err e) = refusal e.number e.line
ending_of (Ok a) = ran (outcome_of a.outcome) a.steps

-- the answer and both lists are what q reports
pub record Reports (q : Whole.Report) (r : Result Answer Refusal) (vs' : List ℤ) (ms' : List ℕ) : Type 0 where
  pub ending : ending_of r ≡ q.ending
  pub values : vs' ≡ q.values
  pub marks : ms' ≡ q.marks
