-- A whole report's bytes.
use Rattle.std.specs.Prelude.{List, [], ◌∷◌, ◌++◌, ℕ, ℤ, Result, Ok, Err}
use Rattle.leaf_bytes.specs.Bytes.{bytes}
use Rattle.law.specs.Print.{decimal_of, row, outcome, cells}
use Rattle.law_answers.specs.declared.Answer.{Answer}
use Rattle.law_answers.specs.declared.Refusal.{Refusal}
use Rattle.law_answers.specs.RunReports.{outcome_of}
use Rattle.law_answers.specs.Written.{names_at}

-- the row of an answer
unfoldable pub answer_row : Answer → List ℕ
answer_row a = outcome (outcome_of a.outcome) a.steps

-- the rows of a report on a text, names at offsets, and a store
unfoldable pub report_rows : List ℕ → List ℕ → List ℤ → List ℕ → Result Answer Refusal → List ℕ
report_rows s ns vs ms (Err e) = row (bytes "refused" ∷ decimal_of e.number ∷ decimal_of e.line ∷ [])
report_rows s ns vs ms (Ok a) = answer_row a ++ cells 1 (names_at s ns) vs ms
