-- The ways through a report.
use Rattle.std.proofs.Common.{Result, Ok, Err}
use mathlib.Core.Path.{◌≡◌, refl, sym, subst}
use mathlib.Core.List.{List, [], ◌∷◌}
use Prim.Native.Nat.{ℕ}
use lib.IntN.{ℤ}
use Rattle.leaf_bytes.specs.Bytes.{bytes}
use Rattle.law.specs.Print.{decimal_of, signed_of, row, outcome, cells, show}
use Rattle.law_answers.specs.Written.{Puts, names_at}
use Rattle.law.specs.Whole as Whole
use Rattle.law_answers.specs.declared.Answer.{Answer}
use Rattle.law_answers.specs.declared.Refusal.{Refusal}
use Rattle.law_answers.specs.RunReports.{outcome_of, ending_of, Reports}
use Rattle.law_answers.specs.declared.Marked.{Marked}
use Rattle.law_answers.specs.MarkingReports.{mark_outcome}
use Rattle.host_telling.specs.MarkTold.{marked_row}
use Rattle.host_telling.specs.Told.{answer_row, report_rows}
use Rattle.host_writing.proofs.Writing.{puts_then}

-- an answer's row is that of the marking machine's answer that it is
pub answer-as : (a : Answer) (x : Marked) (l : List ℕ) (p r : ℕ) (m : List ℕ) → mark_outcome x.ending ≡ outcome_of a.outcome → x.steps ≡ a.steps → Puts (marked_row x) l p r m → Puts (answer_row a) l p r m
unfolding answer_row marked_row
answer-as a x l p r m g h f = rw (← g, ← h) f

module _ (s ns : List ℕ) (vs : List ℤ) (ms : List ℕ) (x : Result Answer Refusal) (l : List ℕ) (p r : ℕ) (m : List ℕ) where
  pub report-refused : (n : Refusal) → x ≡ Err n → Puts (row (bytes "refused" ∷ decimal_of n.number ∷ decimal_of n.line ∷ [])) l p r m → Puts (report_rows s ns vs ms x) l p r m
  unfolding report_rows
  report-refused n e f = subst (λ (y : Result Answer Refusal). Puts (report_rows s ns vs ms y) l p r m) (sym e) f

  pub report-ran : (a : Answer) (q : ℕ) (k : List ℕ) → x ≡ Ok a → Puts (answer_row a) l p q k → Puts (cells 1 (names_at s ns) vs ms) k q r m → Puts (report_rows s ns vs ms x) l p r m
  unfolding report_rows
  report-ran a q k e f g = subst (λ (y : Result Answer Refusal). Puts (report_rows s ns vs ms y) l p r m) (sym e) (puts_then (answer_row a) (cells 1 (names_at s ns) vs ms) l p q k r m f g)

pub ruleset report-laws = (report-refused, report-ran)

-- ---- a run and its report

shown-is : (s ns : List ℕ) (q : Whole.Report) (x : Result Answer Refusal) (vs : List ℤ) (ms : List ℕ) → Reports q x vs ms → report_rows s ns vs ms x ≡ show (names_at s ns) q
unfolding report_rows show answer_row ending_of
shown-is s ns q (Err n) vs ms R = rw (← R.ending) refl
shown-is s ns q (Ok a) vs ms R = rw (← R.ending, ← R.values, ← R.marks) refl

pub script-shown : (s ns : List ℕ) (q : Whole.Report) (x : Result Answer Refusal) (vs : List ℤ) (ms l : List ℕ) (p r : ℕ) (m : List ℕ) → Reports q x vs ms → Puts (report_rows s ns vs ms x) l p r m
    → Puts (show (names_at s ns) q) l p r m
script-shown s ns q x vs ms l p r m R f = subst (λ (bs : List ℕ). Puts bs l p r m) (shown-is s ns q x vs ms R) f
