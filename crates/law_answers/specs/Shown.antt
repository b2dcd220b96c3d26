-- What a run told in rows leaves: its report's rows in the lent bytes, and the store.
use Rattle.std.specs.Prelude.{List, ◌≡◌, ℕ, ℤ}
use Rattle.law.specs.Base.{Name}
use Rattle.law.specs.Print.{show}
use Rattle.law.specs.Whole as Whole
use Rattle.law_answers.specs.Written.{Puts}

-- the rows of q fill the bytes l from their start, r of them, and both lists are what q reports
pub record Shows (names : List Name) (q : Whole.Report) (l : List ℕ) (r : ℕ) (m : List ℕ) (vs' : List ℤ) (ms' : List ℕ) : Type 0 where
  pub rows : Puts (show names q) l 0 r m
  pub values : vs' ≡ q.values
  pub marks : ms' ≡ q.marks
