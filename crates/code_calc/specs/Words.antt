-- Results as words, and the store as words.
use Rattle.std.specs.Prelude.{◌≡◌, ℕ, zero, suc, ◌+◌, ◌*◌, min, Bool, true, ◌&&◌, List, ℤ, pos, negsuc, ◌+ℤ◌, ◌-ℤ◌, ◌==◌, int_le, int_lt, nat_lt, slice_index_or}
use Rattle.leaf_integers.specs.Integers.{inside}
use Rattle.law.specs.Base.{pick}
use Rattle.law.specs.Calculate.{Result, is, fails, stuck, ◌>>=◌, nat_of, tested, range_error, compute, compute1}
use Rattle.law.specs.Operators.{Operation, Operation1}
use Rattle.law.specs.Machine.{Store, defined, read_cell, sole, store_cells, undefined}

-- ---- a value is its own word; a fault's is above every value

-- the words that are values: up to the greatest pattern of 64 bits that is a finite real's
abbrev pub lowest : ℤ
lowest = negsuc 9223372036854775807

abbrev pub greatest : ℤ
greatest = pos 9218868437227405311

-- an exception's number, which is below 0, is added to the greatest word; that word itself is no result
abbrev pub fault_base : ℤ
fault_base = pos 9223372036854775807

abbrev pub no_result : ℤ
no_result = fault_base

abbrev pub numeric_word : ℤ
numeric_word = pos 9223372036854775706

abbrev pub range_word : ℤ
range_word = pos 9223372036854775704

abbrev pub undefined_word : ℤ
undefined_word = pos 9223372036854775703

unfoldable pub word_of : Result ℤ → ℤ
word_of (is z) = z
word_of (fails e) = e +ℤ fault_base
word_of stuck = no_result

unfoldable pub result_of : ℤ → Result ℤ
result_of w = pick (int_lt greatest w) (fails (w -ℤ fault_base)) (is w)

-- ---- the store is an array of words: the cells', then the last exception's number, 0 before any, and its statement; the rest is not used

abbrev pub store_words : ℕ
store_words = 2184

abbrev pub latest_at : ℕ
latest_at = 2176

abbrev pub place_at : ℕ
place_at = 2177

-- the word of a cell
unfoldable pub store_word : List ℤ → ℕ → ℤ
store_word ws a = pick (nat_lt a store_cells) (slice_index_or ws a (pos 0)) undefined_word

-- the last exception's number
unfoldable pub latest_in : List ℤ → ℤ
latest_in ws = slice_index_or ws latest_at (pos 0)

-- a value's word
unfoldable pub InRange : ℤ → Type 0
InRange z = inside lowest greatest z ≡ true

-- the exceptions' numbers lie in -999 to -101
unfoldable pub Exceptional : ℤ → Type 0
Exceptional e = inside (negsuc 998) (negsuc 100) e ≡ true

-- a value in its range, or one of the exceptions' numbers
unfoldable pub Ranged : Result ℤ → Type 0
Ranged (is z) = InRange z
Ranged (fails e) = Exceptional e
Ranged stuck = ⊥

-- operators on words, the left fault first
unfoldable pub applied : Operation → ℤ → ℤ → ℤ
applied c x y = word_of (result_of x >>= λ a. result_of y >>= λ b. compute c a b)

unfoldable pub applied1 : Operation1 → ℤ → ℤ
applied1 c x = word_of (result_of x >>= λ a. compute1 c a)

-- a word tested against bounds
unfoldable pub tested_word : ℤ → ℤ → ℤ → ℤ
tested_word lo hi x = word_of (result_of x >>= λ z. tested range_error lo hi z)

-- r is the word of v
pub record Means (r : ℤ) (v : Result ℤ) : Type 0 where
  pub word : r ≡ word_of v
  pub ranged : Ranged v

-- the first cell of a value
abbrev pub first : Result (List ℤ) → Result ℤ
first v = v >>= λ zs. is (sole zs)

-- the value and the mark of a cell that has this word
unfoldable pub value_in : ℤ → ℤ
value_in w = pick (int_lt greatest w) (pos 0) w

unfoldable pub mark_in : ℤ → ℕ
mark_in w = pick (int_lt greatest w) undefined defined

-- ---- the store as words: each cell's value, or an Undefined_Error, and the last exception

pub record Holds (ws : List ℤ) (m : Store) : Type 0 where
  pub cells : (a : ℕ) → Means (store_word ws a) (read_cell a m)
  pub last : m.latest ≡ latest_in ws
  pub last-ranged : InRange (latest_in ws)

-- n cells from a on are values
unfoldable pub all_values : List ℤ → ℕ → ℕ → Bool
all_values ws a zero = true
all_values ws a (suc n) = int_le (store_word ws a) greatest && all_values ws (a + 1) n

-- the first of n cells from a on, all of which must be values
unfoldable pub cells_word : List ℤ → ℕ → ℕ → ℤ
cells_word ws a zero = pos 0
cells_word ws a (suc n) = pick (all_values ws a (suc n)) (store_word ws a) undefined_word

-- the same by the word of a place; one cell is its word
unfoldable pub cells_at : List ℤ → ℤ → ℕ → ℤ
cells_at ws w n = pick (int_lt greatest w) w (pick (n == 1) (store_word ws (min (nat_of w) 4294967295)) (cells_word ws (min (nat_of w) 4294967295) n))

-- ---- places: no store has a cell past 4294967295

unfoldable pub place_word : Result ℕ → ℤ
place_word (is a) = pos (min a 4294967295)
place_word (fails e) = e +ℤ fault_base
place_word stuck = no_result

unfoldable pub cell_of : ℤ → Result ℕ
cell_of w = pick (int_lt greatest w) (fails (w -ℤ fault_base)) (is (min (nat_of w) 4294967295))

-- an index's distance from its lower bound; the places of an element and of a field
unfoldable pub distance_word : ℤ → ℤ → ℤ → ℤ
distance_word lo hi x = word_of (result_of x >>= λ v. tested range_error lo hi v >>= λ z. is (z -ℤ lo))

unfoldable pub element_word : ℤ → ℤ → ℕ → ℤ
element_word a d n = place_word (cell_of a >>= λ p. result_of d >>= λ k. is (p + min (nat_of k) 4294967295 * n))

unfoldable pub shifted_word : ℤ → ℕ → ℤ
shifted_word a k = place_word (cell_of a >>= λ p. is (p + k))
