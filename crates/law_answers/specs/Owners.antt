-- The names of the cells' variables (law, Environment: `owners`), as offsets into the text.
use Rattle.std.specs.Prelude.{List, [], map, ◌≡◌, ℕ, ◌<◌, length, drop, get_or}
use Rattle.leaf_bytes.specs.Bytes.{small}
use Rattle.law.specs.Trees.{word_at}
use Rattle.law.specs.Verdict as Meaning
use Rattle.law.specs.Verdict.{Read, accepted, refused}

-- the name in small letters is that of the cell's variable; past the cells, and on a refusal, names is as lent
abbrev pub OwnedBy : List ℕ → Meaning.Verdict Read → List ℕ → List ℕ → Type 0
OwnedBy s (refused m n) old names = names ≡ old
OwnedBy s (accepted q) old names = (length names ≡ length old) × (drop (length q.known.cells) names ≡ drop (length q.known.cells) old)
    × ((j : ℕ) → j < length names → j < length q.known.cells → map small (word_at s (get_or names j 0)) ≡ get_or q.known.owners j [])

pub record Owners (s : List ℕ) (v : Meaning.Verdict Read) (old names : List ℕ) : Type 0 where
  pub says : OwnedBy s v old names
