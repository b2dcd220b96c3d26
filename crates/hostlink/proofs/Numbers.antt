-- The ways through the exported functions.
use Rattle.std.proofs.Common.{Result}
use mathlib.Core.Path.{◌≡◌, ap, ◌∙◌}
use mathlib.Core.List.{List}
use Prim.Native.Nat.{ℕ}
use lib.IntN.{ℤ}
use Rattle.law.specs.Whole as Whole
use Rattle.law_answers.specs.declared.Answer.{Answer}
use Rattle.law_answers.specs.declared.Refusal.{Refusal}
use Rattle.law_answers.specs.declared.Marked.{Marked}
use Rattle.law_answers.specs.RunReports.{ending_of, Reports}
use Rattle.law_answers.specs.MarkingReports.{mark_ending, MarkReports}
use Rattle.host_replies.specs.declared.Reply.{Reply}
use Rattle.host_replies.specs.Replies.{verdict_reply, count_reply, ending_reply, Replies}

pub verdict-told : (r : Reply) (v w : Result (Unit {0}) Refusal) → v ≡ w → r ≡ verdict_reply v → r ≡ verdict_reply w
verdict-told r v w e f = f ∙ ap verdict_reply e

pub count-told : (r : Reply) (c d : Result ℕ Refusal) → c ≡ d → r ≡ count_reply c → r ≡ count_reply d
count-told r c d e f = f ∙ ap count_reply e

pub run-told : (q : Whole.Report) (x : Result Answer Refusal) (r : Reply) (vs : List ℤ) (ms : List ℕ) → Reports q x vs ms → r ≡ ending_reply (ending_of x) → Replies q r vs ms
run-told q x r vs ms R f = record { ending = f ∙ ap ending_reply R.ending; values = R.values; marks = R.marks }

pub mark-told : (q : Whole.Report) (x : Result Marked Refusal) (r : Reply) (vs : List ℤ) (ms : List ℕ) → MarkReports q x vs ms → r ≡ ending_reply (mark_ending x) → Replies q r vs ms
mark-told q x r vs ms R f = record { ending = f ∙ ap ending_reply R.ending; values = R.values; marks = R.marks }
