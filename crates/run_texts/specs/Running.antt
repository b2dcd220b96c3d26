-- A run's way to `run_of` (law, Whole): of a text that the lists hold, and of a text by the answer for it.
use Rattle.std.specs.Prelude.{List, [], ◌≡◌, ℕ, ◌≤◌, ℤ, length, Result}
use Rattle.law.specs.Verdict.{Read, accepted}
use Rattle.law.specs.Whole.{verdict_of, run_all, on_store, unless}
use Rattle.law_answers.specs.declared.Answer.{Answer}
use Rattle.law_answers.specs.declared.Refusal.{Refusal}
use Rattle.law_answers.specs.RunReports.{Reports}
use Rattle.rule_known.specs.declared.Known.{Known}
use Rattle.rule_judge.specs.Judging.{Standing}
use Rattle.rule_texts.specs.Answers.{CheckedBy}

-- rows 10 and 11, and then the run, where the lists hold an accepted text
pub record RunsLoaded (l ts : List ℕ) (kn : Known) (vs : List ℤ) (ms : List ℕ) (budget : ℕ) (r : Result Answer Refusal) (vs' : List ℤ) (ms' : List ℕ) : Type 0 where
  pub says : (s : List ℕ) (work : ℕ) (q : Read) (bs : List ℕ) → length l ≤ 16384 → verdict_of s work ≡ accepted q → Standing s l ts kn q bs
      → Reports (on_store q.known (run_all q.codes []) vs ms budget) r vs' ms'

-- the same by the answer for the text: a refusal leaves the store as lent
pub record RunsChecked (l ts : List ℕ) (c : Result Known Refusal) (vs : List ℤ) (ms : List ℕ) (budget : ℕ) (r : Result Answer Refusal) (vs' : List ℤ) (ms' : List ℕ) : Type 0 where
  pub says : (s : List ℕ) (work : ℕ) → length l ≤ 16384 → CheckedBy s l ts (verdict_of s work) c
      → Reports (unless (verdict_of s work) vs ms λ q. on_store q.known (run_all q.codes []) vs ms budget) r vs' ms'
