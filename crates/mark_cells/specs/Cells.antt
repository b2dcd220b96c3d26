-- Cells' words after a store into them. The other words of the array stay.
use Rattle.std.specs.Prelude.{◌≡◌, List, [], ◌∷◌, ℕ, zero, suc, ◌+◌, ◌<◌, ◌≤◌, min, leb, ltb, ℤ, pos, get_or, length, set}
use Rattle.law.specs.Base.{pick}
use Rattle.law.specs.Machine.{store_cells, store_ordinal, store_whole}
use Rattle.code_calc.specs.Words.{InRange, store_word, store_words, undefined_word}
use Rattle.mark_steps.specs.Ends.{left_in}
use Rattle.mark_steps.specs.Stands.{Runs}

-- the number that a place's word is
pub record Addresses (w : ℤ) (r : ℕ) : Type 0 where
  pub says : (a : ℕ) → a ≤ 4294967295 → w ≡ pos a → r ≡ a

-- z in cell a; past the last nothing is written
unfoldable pub written : List ℤ → ℕ → ℤ → List ℤ
written ws a z = pick (ltb a store_cells) (set ws a z) ws

pub record Puts (ws : List ℤ) (a : ℕ) (z : ℤ) (ws' : List ℤ) : Type 0 where
  pub is : ws' ≡ written ws a z

-- ---- a copy as its writes, in the order made: the cell that is read, the one that is written

-- k cells from s on to a on, the first first; the last first
unfoldable pub upwards : ℕ → ℕ → ℕ → List (ℕ × ℕ)
upwards s a zero = []
upwards s a (suc k) = (s, a) ∷ upwards (suc s) (suc a) k

unfoldable pub downwards : ℕ → ℕ → ℕ → List (ℕ × ℕ)
downwards s a zero = []
downwards s a (suc k) = (s + k, a + k) ∷ downwards s a k

-- the way on which no cell is read after it was written, wherever the two lie
unfoldable pub moves : ℕ → ℕ → ℕ → List (ℕ × ℕ)
moves s a k = pick (leb a s) (upwards s a k) (downwards s a k)

unfoldable pub made : List (ℕ × ℕ) → List ℤ → List ℤ
made [] ws = ws
made (w ∷ us) ws = made us (written ws w.1 (store_word ws w.0))

-- the cells from a + lo to a + hi, as far as there are any, hold what those from s + lo on held
pub record Copies (ws : List ℤ) (s a lo hi : ℕ) (ws' : List ℤ) : Type 0 where
  pub here : (j : ℕ) → lo ≤ j → j < hi → a + j < store_cells → store_word ws' (a + j) ≡ store_word ws (s + j)
  pub below : (i : ℕ) → i < a + lo → store_word ws' i ≡ store_word ws i
  pub above : (i : ℕ) → a + hi ≤ i → store_word ws' i ≡ store_word ws i
  pub long : length ws' ≡ length ws
  pub beside : (i : ℕ) → store_cells ≤ i → get_or ws' i (pos 0) ≡ get_or ws i (pos 0)

-- k cells copied from s on to a on: the writes, and the store after them
pub record Copying (ws : List ℤ) (s a k : ℕ) (ws' : List ℤ) : Type 0 where
  pub writes : ws' ≡ made (moves s a k) ws
  pub leaves : length ws ≡ store_words → Copies ws s a 0 k ws'

-- ---- the parameters of a call

-- the k cells from a on, as far as there are any, hold what f says
pub record Fills (ws : List ℤ) (a : ℕ) (f : ℕ → ℤ) (k : ℕ) (ws' : List ℤ) : Type 0 where
  pub here : (j : ℕ) → j < k → a + j < store_cells → store_word ws' (a + j) ≡ f j
  pub below : (i : ℕ) → i < a → store_word ws' i ≡ store_word ws i
  pub above : (i : ℕ) → a + k ≤ i → store_word ws' i ≡ store_word ws i
  pub long : length ws' ≡ length ws
  pub beside : (i : ℕ) → store_cells ≤ i → get_or ws' i (pos 0) ≡ get_or ws i (pos 0)

pub record Filling (ws : List ℤ) (a : ℕ) (f : ℕ → ℤ) (k : ℕ) (ws' : List ℤ) : Type 0 where
  pub says : length ws ≡ store_words → Fills ws a f k ws'

-- the first k of the words us
abbrev pub Gives : List ℤ → ℕ → ℕ → List ℤ → List ℤ → Type 0
Gives ws a k us ws' = Filling ws a (λ j. get_or us j (pos 0)) k ws'

-- nothing
abbrev pub Forgets : List ℤ → ℕ → ℕ → List ℤ → Type 0
Forgets ws a k ws' = Filling ws a (λ j. undefined_word) k ws'

-- ---- what statement n stores in the cells from a on, by the word w of that place; the end's word is none of sticking

-- the ordinal x, of lo to hi
pub record StoresOrdinal (n : ℕ) (lo hi w x : ℤ) (ws : List ℤ) (left : ℕ) (ws' : List ℤ) (r : ℕ) : Type 0 where
  pub says : InRange x → (a : ℕ) → w ≡ pos (min a 4294967295) → Runs (store_ordinal n a lo hi x) ws left ws' r
  pub fewer : left_in r ≤ left
  pub plain : left ≤ 4294967295 → r < 12884901888

-- one cell with no range test
pub record StoresOne (n : ℕ) (w x : ℤ) (ws : List ℤ) (left : ℕ) (ws' : List ℤ) (r : ℕ) : Type 0 where
  pub says : InRange x → (a : ℕ) → w ≡ pos (min a 4294967295) → Runs (store_whole n a (x ∷ [])) ws left ws' r
  pub fewer : left_in r ≤ left
  pub plain : left ≤ 4294967295 → r < 12884901888

-- the cells zs are the k words from s on
pub record CellsAre (ws : List ℤ) (s k : ℕ) (zs : List ℤ) : Type 0 where
  pub count : length zs ≡ k
  pub here : (j : ℕ) → j < length zs → store_word ws (s + j) ≡ get_or zs j (pos 0)
  pub ranged : (j : ℕ) → j < length zs → InRange (get_or zs j (pos 0))

-- k cells from s on
pub record StoresCells (n s k : ℕ) (w : ℤ) (ws : List ℤ) (left : ℕ) (ws' : List ℤ) (r : ℕ) : Type 0 where
  pub says : (zs : List ℤ) → CellsAre ws s k zs → (a : ℕ) → w ≡ pos (min a 4294967295) → Runs (store_whole n a zs) ws left ws' r
  pub fewer : left_in r ≤ left
  pub plain : left ≤ 4294967295 → r < 12884901888
