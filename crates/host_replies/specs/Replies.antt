-- The numbers that a host is told (include/drive.h): for each case of an answer, document 01's number and values.
use Rattle.std.specs.Prelude.{List, ◌≡◌, ℕ, ℤ, pos, Result, Ok, Err}
use Rattle.law.specs.Machine as Machine
use Rattle.law.specs.Machine.{normal, spent, sticks, raised}
use Rattle.law.specs.Whole.{Ending, Report, refusal, ran}
use Rattle.law_answers.specs.declared.Refusal.{Refusal}
use Rattle.host_replies.specs.declared.Reply.{Reply}

-- a refusal's number and line
abbrev pub refused_reply : ℕ → ℕ → Reply
refused_reply n l = record { refusal = n; outcome = 0; line = l; cells = 0; exception = pos 0; statement = 0; steps = 0 }

-- no refusal, and so many cells
abbrev pub cells_reply : ℕ → Reply
cells_reply n = record { refusal = 0; outcome = 0; line = 0; cells = n; exception = pos 0; statement = 0; steps = 0 }

-- no refusal: the outcome's number, an exception's number and statement, the steps
abbrev pub ended_reply : ℕ → ℤ → ℕ → ℕ → Reply
ended_reply o z p s = record { refusal = 0; outcome = o; line = 0; cells = 0; exception = z; statement = p; steps = s }

-- the verdict
unfoldable pub verdict_reply : Result (Unit {0}) Refusal → Reply
verdict_reply (Ok _) = cells_reply 0
verdict_reply (Err e) = refused_reply e.number e.line

-- the count of cells
unfoldable pub count_reply : Result ℕ Refusal → Reply
count_reply (Err e) = refused_reply e.number e.line
count_reply (Ok n) = cells_reply n

-- the outcomes: normal 0, an exception 1, spent 2, stuck 3
unfoldable pub outcome_reply : Machine.Outcome → ℕ → Reply
outcome_reply normal s = ended_reply 0 (pos 0) 0 s
outcome_reply (raised z p) s = ended_reply 1 z p s
outcome_reply spent s = ended_reply 2 (pos 0) 0 s
outcome_reply sticks s = ended_reply 3 (pos 0) 0 s

-- how a run ended
unfoldable pub ending_reply : Ending → Reply
ending_reply (refusal n l) = refused_reply n l
ending_reply (ran o s) = outcome_reply o s

-- the reply and both lists are what q reports
pub record Replies (q : Report) (r : Reply) (vs' : List ℤ) (ms' : List ℕ) : Type 0 where
  pub ending : r ≡ ending_reply q.ending
  pub values : vs' ≡ q.values
  pub marks : ms' ≡ q.marks
