-- The key of a name, two numbers of 32 bits: names whose keys differ are not the same.
use Rattle.std.specs.Prelude.{List, [], ◌∷◌, map, ◌≡◌, ℕ, ◌+◌, ◌*◌, ◌%◌}
use Rattle.leaf_bytes.specs.Bytes.{small}
use Rattle.law.specs.Base.{Name}
use Rattle.law.specs.Trees.{word_at}
use Rattle.law_theorems.specs.Readings.{rest_at, stack_at}
use Rattle.rule_repeats.specs.declared.keys.Keyed.{Keyed}

-- a number with one more letter
unfoldable pub key_with : ℕ → ℕ → ℕ → ℕ
key_with f k b = (k * f + b) % 4294967296

unfoldable pub key_from : ℕ → ℕ → Name → ℕ
key_from f k [] = k
key_from f k (b ∷ w) = key_from f (key_with f k b) w

-- letters and digits lie in 48 to 122: by the factor 75 no two names of up to five of them have the same number
abbrev pub low_factor : ℕ
low_factor = 75

-- 2 ^ 32 by the golden ratio, for names that are longer
abbrev pub high_factor : ℕ
high_factor = 2654435769

unfoldable pub low_of : Name → ℕ
low_of w = key_from low_factor 0 w

unfoldable pub high_of : Name → ℕ
high_of w = key_from high_factor 0 w

-- the name at an offset, in small letters
abbrev pub name_at : List ℕ → ℕ → Name
name_at s p = map small (word_at s p)

abbrev pub keyed_by : ℕ → ℕ → ℕ → Keyed
keyed_by a b q = record { low = a; high = b; next = q }

-- the key of the word that goes on at an offset, and what stands after it
pub record KeyedAt (s : List ℕ) (at : ℕ) (r : Keyed) : Type 0 where
  pub low-is : r.low ≡ low_of (name_at s at)
  pub high_is : r.high ≡ high_of (name_at s at)
  pub rest : stack_at s r.next ≡ rest_at s at
