-- Where a word may stand in the table, by its length and three of its letters: for the inner functions of the code. No law cites it.
use Rattle.std.specs.Prelude.{Bool, false, cond, ◌||◌, List, [], ◌∷◌, map, ℕ, suc, ◌+◌, ◌*◌, ◌-◌, ◌/◌, ◌%◌, eqb, length, get_or}
use Rattle.leaf_reserved.specs.Table.{fixed}

-- a word's slot: of its first, its middle and its last byte, and of its length
unfoldable pub slot_of : List ℕ → ℕ
slot_of w = (24 * get_or w 0 0 + 32 * get_or w (length w / 2) 0 + 48 * get_or w (length w - 1) 0 + 5 * length w) % 256

-- the place of the first number that is h, or how many numbers there are
unfoldable pub spot : ℕ → List ℕ → ℕ
spot h [] = 0
spot h (s ∷ ss) = cond (eqb h s) 0 (suc (spot h ss))

-- the place of the first word of slot h
unfoldable pub guess : ℕ → ℕ
guess h = spot h (map (λ (w : List ℕ). slot_of w) fixed)

-- a row of twelve bytes has n letters and then zeros
unfoldable pub has_letters : List ℕ → ℕ → Bool
has_letters row n = cond (eqb (get_or row (n - 1) 0) 0) false (eqb n 12 || eqb (get_or row n 0) 0)
