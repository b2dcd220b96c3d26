-- Values that are put in order: what changes in the list, and what is then found.
use Rattle.std.specs.Prelude.{Bool, true, List, ◌≡◌, ℕ, ◌+◌, ◌*◌, ◌%◌, ◌<◌, length, get_or}
use Rattle.law.specs.Base.{Name}
use Rattle.code.specs.LayoutRegions.{Same}
use Rattle.table_names.specs.Chain.{name_at, place_in, first_value, places, value_in}

-- of the entries from b on second numbers alone change, and of these not the sorts
pub record Ranks (b : ℕ) (l l' : List ℕ) : Type 0 where
  pub long : length l' ≡ length l
  pub other : (j : ℕ) → ((i : ℕ) → j ≡ b + 4 * i + 1 → ⊥) → get_or l' j 0 ≡ get_or l j 0
  pub sorts : (j : ℕ) → get_or l' j 0 % 512 ≡ get_or l j 0 % 512

-- where r is true, each of the n values behind the entry at p is found by its name
pub record Finds (s l : List ℕ) (p n : ℕ) (r : Bool) : Type 0 where
  pub each : r ≡ true → (i : ℕ) → i < n → value_in s l p n (name_at s l (first_value p + 4 * i)) ≡ first_value p + 4 * i

-- the third number of the entry at p is 0, or n, and then halving finds what the values' chain does
pub data Marks (s l : List ℕ) (p n : ℕ) : Type 0 where
  unmarked : get_or l (p + 2) 0 ≡ 0 → Marks s l p n
  marked : get_or l (p + 2) 0 ≡ n → ((w : Name) → value_in s l p n w ≡ place_in s l (places n (p + 12)) w) → Marks s l p n

-- that number alone is set
pub record Marking (s l : List ℕ) (p n : ℕ) (l' : List ℕ) : Type 0 where
  pub long : length l' ≡ length l
  pub other : (j : ℕ) → (j ≡ p + 2 → ⊥) → get_or l' j 0 ≡ get_or l j 0
  pub head : p < 32768 → p + 2 < length l → Marks s l' p n

-- the values behind the entry at p are put in order
pub record Ordered (s l : List ℕ) (p n : ℕ) (l' : List ℕ) : Type 0 where
  pub below : Same 0 p l' l
  pub long : length l' ≡ length l
  pub other : (j : ℕ) → (j ≡ p + 2 → ⊥) → ((i : ℕ) → j ≡ p + 12 + 4 * i + 1 → ⊥) → get_or l' j 0 ≡ get_or l j 0
  pub sorts : (j : ℕ) → (j ≡ p + 2 → ⊥) → get_or l' j 0 % 512 ≡ get_or l j 0 % 512
  pub head : p < 32768 → p + 2 < length l → Marks s l' p n
