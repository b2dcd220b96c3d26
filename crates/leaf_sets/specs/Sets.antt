-- Document 01, "The store and the run": a set is the list of its members, and its value is the sum of 2 to each member's ordinal.
use Rattle.std.specs.Prelude.{Bool, true, false, not, cond, ◌&&◌, ◌||◌, List, [], ◌∷◌, ℕ, zero, suc, ◌+◌, ◌/◌, ◌%◌, ◌^◌, eqb, leb, ℤ, pos, negsuc, Option, Some, None}
use Rattle.std.specs.Int.Signed.{le_z}

-- those of the k ordinals from i on that pass the test, in order
unfoldable pub those : (ℕ → Bool) → ℕ → ℕ → List ℕ
those f i zero = []
those f i (suc k) = cond (f i) (i ∷ those f (suc i) k) (those f (suc i) k)

-- the digit of 2 ^ i in the number s is 1
unfoldable pub bit : ℕ → ℕ → Bool
bit s i = eqb (s / 2 ^ i % 2) 1

-- the members of the pattern s: the ordinals from 0 to 31 whose digit is 1
unfoldable pub members : ℕ → List ℕ
members s = those (bit s) 0 32

-- a set's value
unfoldable pub value_of : List ℕ → ℕ
value_of [] = 0
value_of (i ∷ l) = 2 ^ i + value_of l

-- the pattern of a cell's value: of a set's value it is that value
unfoldable pub pattern_of : ℤ → ℕ
pattern_of (pos n) = n % 4294967296
pattern_of (negsuc n) = 0

-- the members of a cell's value
unfoldable pub members_of : ℤ → List ℕ
members_of z = members (pattern_of z)

-- i is in the list
unfoldable pub has : ℕ → List ℕ → Bool
has i [] = false
has i (x ∷ l) = eqb x i || has i l

-- `in`, for any ordinal
unfoldable pub holds : ℤ → List ℕ → Bool
holds (pos i) l = has i l
holds (negsuc i) l = false

-- `setmin` and `setmax`: the first and the last of a list in order
unfoldable pub least : List ℕ → Option ℕ
least [] = None
least (x ∷ l) = Some x

unfoldable pub greatest : List ℕ → Option ℕ
greatest [] = None
greatest (x ∷ []) = Some x
greatest (x ∷ (y ∷ l)) = greatest (y ∷ l)

-- one ordinal more
unfoldable pub with : ℤ → List ℕ → List ℕ
with z a = those (λ i. has i a || holds z (i ∷ [])) 0 32

-- `+`, `-` and `*` of two sets
unfoldable pub union_of : List ℕ → List ℕ → List ℕ
union_of a b = those (λ i. has i a || has i b) 0 32

unfoldable pub difference_of : List ℕ → List ℕ → List ℕ
difference_of a b = those (λ i. has i a && not (has i b)) 0 32

unfoldable pub intersection_of : List ℕ → List ℕ → List ℕ
intersection_of a b = those (λ i. has i a && has i b) 0 32

-- every one of the list passes the test
unfoldable pub all : (ℕ → Bool) → List ℕ → Bool
all f [] = true
all f (x ∷ l) = f x && all f l

-- `<=`: the right holds all of the left
unfoldable pub within : List ℕ → List ℕ → Bool
within a b = all (λ i. has i b) a

-- `=`: each holds all of the other
unfoldable pub equals : List ℕ → List ℕ → Bool
equals a b = within a b && within b a

-- every member lies in lo to hi
unfoldable pub all_in : ℤ → ℤ → List ℕ → Bool
all_in lo hi l = all (λ i. le_z lo (pos i) && le_z (pos i) hi) l

-- a cell's value that is a set of ordinals in lo to hi
unfoldable pub lies_in : ℤ → ℤ → ℤ → Bool
lies_in lo hi (pos n) = leb n 4294967295 && all_in lo hi (members n)
lies_in lo hi (negsuc n) = false
