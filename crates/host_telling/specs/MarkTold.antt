-- The bytes of a whole report of the marking machine.
use Rattle.std.specs.Prelude.{List, [], ◌∷◌, ◌++◌, ℕ, ℤ, Result, Ok, Err}
use Rattle.leaf_bytes.specs.Bytes.{bytes}
use Rattle.law.specs.Print.{decimal_of, row, outcome, cells}
use Rattle.law_answers.specs.declared.Marked.{Marked}
use Rattle.law_answers.specs.declared.Refusal.{Refusal}
use Rattle.law_answers.specs.MarkingReports.{mark_outcome}
use Rattle.law_answers.specs.Written.{names_at}

-- the row of an answer
unfoldable pub marked_row : Marked → List ℕ
marked_row a = outcome (mark_outcome a.ending) a.steps

-- the rows of a report on a text, names at offsets, and a store
unfoldable pub mark_rows : List ℕ → List ℕ → List ℤ → List ℕ → Result Marked Refusal → List ℕ
mark_rows s ns vs ms (Err e) = row (bytes "refused" ∷ decimal_of e.number ∷ decimal_of e.line ∷ [])
mark_rows s ns vs ms (Ok a) = marked_row a ++ cells 1 (names_at s ns) vs ms
