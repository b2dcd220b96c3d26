-- Document 01, "The text": a name has letters, digits and single underscores between them, a letter first; 1 to 31 bytes.
use Rattle.std.specs.Prelude.{Bool, true, false, ◌&&◌, ◌||◌, List, [], ◌∷◌, ℕ, eqb, leb, length}
use Rattle.leaf_bytes.specs.Bytes.{is_letter, is_alnum}

-- the first byte is a letter or a digit
unfoldable pub alnum_first : List ℕ → Bool
alnum_first [] = false
alnum_first (b ∷ bs) = is_alnum b

-- the first byte may stand within a name: it is a letter or a digit, or an underscore (95) before one of these
unfoldable pub part_ok : List ℕ → Bool
part_ok [] = false
part_ok (b ∷ bs) = is_alnum b || (eqb b 95 && alnum_first bs)

-- what may follow the first letter
unfoldable pub goes_on : List ℕ → Bool
goes_on [] = true
goes_on (b ∷ bs) = part_ok (b ∷ bs) && goes_on bs

unfoldable pub is_name : List ℕ → Bool
is_name [] = false
is_name (b ∷ bs) = leb (length (b ∷ bs)) 31 && (is_letter b && goes_on bs)
