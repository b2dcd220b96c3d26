-- A run's way to `mark_of` (law, Whole): of a text that the tables hold, and of a text by the answer for it.
use Rattle.std.specs.Prelude.{true, List, [], ◌≡◌, ℕ, ℤ, Result}
use Rattle.law.specs.Verdict.{Read, accepted, judge, loosely}
use Rattle.law.specs.Whole.{mark_all, on_store, unless}
use Rattle.law_answers.specs.declared.Marked.{Marked}
use Rattle.law_answers.specs.declared.Refusal.{Refusal}
use Rattle.law_answers.specs.MarkingReports.{MarkReports}
use Rattle.rule_known.specs.declared.Known.{Known}
use Rattle.rule_judge_loose.specs.Standing.{LooseStanding}
use Rattle.rule_judge_loose.specs.Texts.{AdmittedBy}

-- rows 10 and 11, and then the run, where the tables hold a text that the marking machine takes
pub record MarksLoaded (s l ts tb : List ℕ) (kn : Known) (vs : List ℤ) (ms : List ℕ) (budget : ℕ) (r : Result Marked Refusal) (vs' : List ℤ) (ms' : List ℕ) : Type 0 where
  pub says : (work : ℕ) (q : Read) → judge loosely s work ≡ accepted q → LooseStanding s l ts tb kn q.known → q.known.ended ≡ true
      → MarkReports (on_store q.known (mark_all q.known.bodies []) vs ms budget) r vs' ms'

-- the same by the answer for the text: a refusal leaves the store as lent
pub record MarksChecked (s l ts tb : List ℕ) (c : Result Known Refusal) (vs : List ℤ) (ms : List ℕ) (budget : ℕ) (r : Result Marked Refusal) (vs' : List ℤ) (ms' : List ℕ) : Type 0 where
  pub says : (work : ℕ) → AdmittedBy s l ts tb (judge loosely s work) c
      → MarkReports (unless (judge loosely s work) vs ms λ q. on_store q.known (mark_all q.known.bodies []) vs ms budget) r vs' ms'
