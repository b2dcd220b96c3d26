-- How a word tells the end of a run, and the run by a lent array. The array is named as it was lent, since the contracts ask for its length.
use Rattle.std.specs.Prelude.{List, ◌≡◌, ℕ, ◌≤◌, ℤ, pos, length, get_or}
use Rattle.law_answers.specs.declared.Marked.{Marked}
use Rattle.law_answers.specs.declared.Ending.{Ending}
use Rattle.law_answers.specs.MarkingReports.{mark_outcome}
use Rattle.code_calc.specs.Words.{place_at, store_words}
use Rattle.mark_acts.specs.Ends.{mark_told}
use Rattle.mark_machine.specs.Answers.{MarksLent}

-- r is how the word w, with the array ws, says that a run ended
pub record MarkTells (w : ℕ) (ws : List ℤ) (r : Ending) : Type 0 where
  pub says : (k : ℕ) → k ≤ 4294967295 → get_or ws place_at (pos 0) ≡ pos k → mark_outcome r ≡ mark_told w ws

-- a whole run, by an array ws₀ for the words
pub record MarksIn (ws₀ : List ℤ) (s l ts tb : List ℕ) (q : ℕ) (vs : List ℤ) (ms : List ℕ) (budget : ℕ) (r : Marked) (vs' : List ℤ) (ms' : List ℕ) : Type 0 where
  pub says : length ws₀ ≡ store_words → MarksLent s l ts tb q vs ms budget r vs' ms'
