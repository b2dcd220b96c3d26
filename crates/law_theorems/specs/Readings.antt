-- What a reader that has reached an offset of a text sees there, as contracts say it: bytes are read from the right, with the word that may still
-- grow apart from the trees by level. It is what the law's tokens give (proofs/Reading).
use Rattle.std.specs.Prelude.{List, [], ◌∷◌, ℕ, drop}
use Rattle.leaf_bytes.specs.declared.bytes.Class.{Class}
use Rattle.leaf_bytes.specs.declared.bytes.Class.TheVariants.{Feed, Space, Open, Close, Visible, Refused}
use Rattle.leaf_bytes.specs.Bytes.{class_of}
use Rattle.law.specs.Trees.{word, form, Trees, end, Run, first, later, push}

-- the word that may still grow (none: []), and the trees after it by level
pub record Reading : Type 0 where
  pub begun : Run
  pub stack : List (Trees Run)

abbrev pub reading : Run → List (Trees Run) → Reading
reading w k = record { begun = w; stack = k }

-- the word, if there is one, ends here
abbrev pub ended : Run → List (Trees Run) → List (Trees Run)
ended [] k = k
ended (b ∷ w) k = push (word (b ∷ w)) k

abbrev pub wrapped : List (Trees Run) → List (Trees Run)
wrapped k = push (form (first k)) (later k)

-- one byte more, on the left
unfoldable pub with_byte : Class → ℕ → Reading → Reading
with_byte Feed b r = reading [] []
with_byte Space b r = reading [] (ended r.begun r.stack)
with_byte Open b r = reading [] (wrapped (ended r.begun r.stack))
with_byte Close b r = reading [] (end ∷ ended r.begun r.stack)
with_byte Visible b r = reading (b ∷ r.begun) r.stack
with_byte Refused b r = reading [] []

unfoldable pub read_bytes : List ℕ → Reading
read_bytes [] = reading [] []
read_bytes (b ∷ bs) = with_byte (class_of b) b (read_bytes bs)

-- the trees after the word that goes on at an offset; all from the offset on
unfoldable pub rest_at : List ℕ → ℕ → List (Trees Run)
rest_at s p = (read_bytes (drop p s)).stack

unfoldable pub stack_at : List ℕ → ℕ → List (Trees Run)
stack_at s p = ended (read_bytes (drop p s)).begun (rest_at s p)
