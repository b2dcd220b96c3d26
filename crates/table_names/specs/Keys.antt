-- The key of a name, a number of 17 bits: names whose keys differ are not the same.
use Rattle.std.specs.Prelude.{List, [], ◌∷◌, map, ℕ, ◌+◌, ◌*◌, ◌/◌, ◌%◌}
use Rattle.leaf_bytes.specs.Bytes.{small}
use Rattle.law.specs.Base.{Name}
use Rattle.law.specs.Trees.{word_at}

-- one letter more: 12 bits come from the letters, and no two names of up to two letters and digits have the same; 5 bits above them are how
-- many letters there are
unfoldable pub key_with : ℕ → ℕ → ℕ
key_with k b = (k % 4096 * 39 + b) % 4096 + 4096 * ((k / 4096 + 1) % 32)

unfoldable pub key_from : ℕ → Name → ℕ
key_from k [] = k
key_from k (b ∷ w) = key_from (key_with k b) w

unfoldable pub key_of : Name → ℕ
key_of w = key_from 0 w

-- the first number of the entry of the name at p: its offset, and its key
unfoldable pub keyed : List ℕ → ℕ → ℕ
keyed s p = p % 32768 + 32768 * key_of (map small (word_at s p))
