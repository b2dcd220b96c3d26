-- What is told of a verdict (law, Verdict).
use Rattle.std.specs.Prelude.{ℕ, length, Result, Ok, Err}
use Rattle.law.specs.Verdict as Meaning
use Rattle.law.specs.Verdict.{Read, accepted, refused}
use Rattle.law_answers.specs.declared.Refusal.{Refusal}

-- a refusal by its number and line
abbrev pub refusal_of : ℕ → ℕ → Refusal
refusal_of m n = record { number = m; line = n }

-- the verdict on a text
unfoldable pub told_verdict : Meaning.Verdict Read → Result (Unit {0}) Refusal
told_verdict (accepted q) = Ok tt
told_verdict (refused m n) = Err (refusal_of m n)

-- the answer for a text: its refusal, or how many cells it has
unfoldable pub cells_told : Meaning.Verdict Read → Result ℕ Refusal
cells_told (refused m n) = Err (refusal_of m n)
cells_told (accepted q) = Ok (length q.known.cells)
