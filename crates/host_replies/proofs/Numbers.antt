-- The ways through the functions that tell an answer in numbers.
use Rattle.std.proofs.Common.{Result, Ok, Err}
use mathlib.Core.Path.{◌≡◌, sym, ap, ◌∙◌}
use Prim.Native.Nat.{ℕ}
use lib.IntN.{ℤ, pos}
use mir.Syntax.{w64}
use mir.Val.{SFits}
use mir.Facts.{to_z-of_z}
use Rattle.leaf_integers.proofs.Machine.{wire}
use Rattle.law_answers.specs.declared.Answer.{Answer}
use Rattle.law_answers.specs.declared.Outcome.{Outcome}
use Rattle.law_answers.specs.declared.Outcome.TheVariants.{Normal, Raised, Spent}
use Rattle.law_answers.specs.declared.Refusal.{Refusal}
use Rattle.law_answers.specs.declared.Ending.{Ending}
use Rattle.law_answers.specs.declared.Ending.TheVariants as ending
use Rattle.law_answers.specs.declared.Marked.{Marked}
use Rattle.law_answers.specs.RunReports.{outcome_of, ending_of}
use Rattle.law_answers.specs.MarkingReports.{mark_outcome, mark_ending}
use Rattle.host_replies.specs.declared.Reply.{Reply}
use Rattle.host_replies.specs.Replies.{refused_reply, cells_reply, ended_reply, outcome_reply, verdict_reply, count_reply, ending_reply}

module _ (r : Reply) where
  pub verdict-accepted : (v : Result (Unit {0}) Refusal) (u : Unit {0}) → v ≡ Ok u → r ≡ cells_reply 0 → r ≡ verdict_reply v
  unfolding verdict_reply
  verdict-accepted v u e f = f ∙ ap verdict_reply (sym e)

  pub verdict-refused : (v : Result (Unit {0}) Refusal) (x : Refusal) → v ≡ Err x → r ≡ refused_reply x.number x.line → r ≡ verdict_reply v
  unfolding verdict_reply
  verdict-refused v x e f = f ∙ ap verdict_reply (sym e)

  pub count-cells : (c : Result ℕ Refusal) (n : ℕ) → c ≡ Ok n → r ≡ cells_reply n → r ≡ count_reply c
  unfolding count_reply
  count-cells c n e f = f ∙ ap count_reply (sym e)

  pub count-refused : (c : Result ℕ Refusal) (x : Refusal) → c ≡ Err x → r ≡ refused_reply x.number x.line → r ≡ count_reply c
  unfolding count_reply
  count-refused c x e f = f ∙ ap count_reply (sym e)

  module _ (x : Result Answer Refusal) where
    pub report-refused : (e : Refusal) → x ≡ Err e → r ≡ refused_reply e.number e.line → r ≡ ending_reply (ending_of x)
    unfolding ending_of ending_reply
    report-refused n e f = f ∙ ap (λ (y : Result Answer Refusal). ending_reply (ending_of y)) (sym e)

    pub report-ran : (a : Answer) → x ≡ Ok a → r ≡ outcome_reply (outcome_of a.outcome) a.steps → r ≡ ending_reply (ending_of x)
    unfolding ending_of ending_reply
    report-ran a e f = f ∙ ap (λ (y : Result Answer Refusal). ending_reply (ending_of y)) (sym e)

  module _ (a : Marked) where
    mark-by : (o : Ending) → a.ending ≡ o → r ≡ outcome_reply (mark_outcome o) a.steps → r ≡ outcome_reply (mark_outcome a.ending) a.steps
    mark-by o e f = f ∙ ap (λ (x : Ending). outcome_reply (mark_outcome x) a.steps) (sym e)

    pub mark-normal : a.ending ≡ ending.Normal → r ≡ ended_reply 0 (pos 0) 0 a.steps → r ≡ outcome_reply (mark_outcome a.ending) a.steps
    unfolding mark_outcome outcome_reply
    mark-normal e f = mark-by ending.Normal e f

    pub mark-spent : a.ending ≡ ending.Spent → r ≡ ended_reply 2 (pos 0) 0 a.steps → r ≡ outcome_reply (mark_outcome a.ending) a.steps
    unfolding mark_outcome outcome_reply
    mark-spent e f = mark-by ending.Spent e f

    pub mark-stuck : a.ending ≡ ending.Stuck → r ≡ ended_reply 3 (pos 0) 0 a.steps → r ≡ outcome_reply (mark_outcome a.ending) a.steps
    unfolding mark_outcome outcome_reply
    mark-stuck e f = mark-by ending.Stuck e f

    pub mark-raised : (z : ℤ) (n : ℕ) → a.ending ≡ ending.Raised z n → SFits w64 z → r ≡ ended_reply 1 (wire z) n a.steps → r ≡ outcome_reply (mark_outcome a.ending) a.steps
    unfolding mark_outcome outcome_reply
    mark-raised z n e y f = mark-by (ending.Raised z n) e (f ∙ ap (λ (x : ℤ). ended_reply 1 x n a.steps) (to_z-of_z y))

  module _ (x : Result Marked Refusal) where
    pub mark-refused : (e : Refusal) → x ≡ Err e → r ≡ refused_reply e.number e.line → r ≡ ending_reply (mark_ending x)
    unfolding mark_ending ending_reply
    mark-refused n e f = f ∙ ap (λ (y : Result Marked Refusal). ending_reply (mark_ending y)) (sym e)

    pub mark-ran : (a : Marked) → x ≡ Ok a → r ≡ outcome_reply (mark_outcome a.ending) a.steps → r ≡ ending_reply (mark_ending x)
    unfolding mark_ending ending_reply
    mark-ran a e f = f ∙ ap (λ (y : Result Marked Refusal). ending_reply (mark_ending y)) (sym e)

pub ruleset verdict-laws = (verdict-accepted, verdict-refused)

pub ruleset count-laws = (count-cells, count-refused)

pub ruleset report-laws = (report-refused, report-ran)

pub ruleset mark-answer-laws = (mark-normal, mark-spent, mark-stuck, mark-raised)

pub ruleset mark-report-laws = (mark-refused, mark-ran)
