-- What `runscript` prints.
use Rattle.std.specs.Prelude.{true, false, List, [], ◌∷◌, ◌++◌, ℕ, zero, suc, ◌+◌, ◌/◌, ◌%◌, ℤ, pos, negsuc, eqb, length, replicate}
use Rattle.leaf_bytes.specs.Bytes.{bytes}
use Rattle.law.specs.Base.{Name}
use Rattle.law.specs.Machine.{Outcome, is_defined, normal, raised, spent, sticks, undefined}
use Rattle.law.specs.Verdict.{Fitting, accepted, judge, loosely, refused, strictly}
use Rattle.law.specs.Whole.{Report, mark_of, ran, refusal, run_of}

-- at most `fuel` more digits, in front of what follows
unfoldable pub decimal : ℕ → ℕ → List ℕ → List ℕ
decimal zero n rest = rest
decimal (suc f) n rest = elim (eqb (n / 10) 0) [ true ↦ (48 + n % 10) ∷ rest | false ↦ decimal f (n / 10) ((48 + n % 10) ∷ rest) ]

unfoldable pub decimal_of : ℕ → List ℕ
decimal_of n = decimal 20 n []

unfoldable pub signed_of : ℤ → List ℕ
signed_of (pos n) = decimal_of n
signed_of (negsuc n) = 45 ∷ decimal_of (suc n)

-- words with spaces between, and a line feed
unfoldable pub row : List (List ℕ) → List ℕ
row [] = 10 ∷ []
row (w ∷ []) = w ++ (10 ∷ [])
row (w ∷ (v ∷ vs)) = w ++ (32 ∷ row (v ∷ vs))

unfoldable pub outcome : Outcome → ℕ → List ℕ
outcome normal n = row (bytes "normal" ∷ decimal_of n ∷ [])
outcome spent n = row (bytes "spent" ∷ decimal_of n ∷ [])
outcome sticks n = row (bytes "stuck" ∷ decimal_of n ∷ [])
outcome (raised z p) n = row (bytes "exception" ∷ signed_of z ∷ decimal_of p ∷ decimal_of n ∷ [])

unfoldable pub cell_value : ℤ → ℕ → List ℕ
cell_value v m = elim (is_defined m) [ true ↦ signed_of v | false ↦ 45 ∷ [] ]

-- cells from number n on
unfoldable pub cells : ℕ → List Name → List ℤ → List ℕ → List ℕ
cells n [] vs ms = []
cells n (w ∷ ws) [] ms = []
cells n (w ∷ ws) (v ∷ vs) [] = []
cells n (w ∷ ws) (v ∷ vs) (m ∷ ms) = row (decimal_of n ∷ w ∷ cell_value v m ∷ []) ++ cells (suc n) ws vs ms

unfoldable pub show : List Name → Report → List ℕ
show ws r = elim r.ending [
  | refusal n l ↦ row (bytes "refused" ∷ decimal_of n ∷ decimal_of l ∷ [])
  | ran o s ↦ outcome o s ++ cells 1 ws r.values r.marks
]

-- every cell undefined at the start
unfoldable pub scripted : Fitting → (List ℤ → List ℕ → ℕ → Report) → List ℕ → ℕ → List ℕ
scripted fitting machine text budget = elim (judge fitting text 16384) [
  | refused n l ↦ row (bytes "refused" ∷ decimal_of n ∷ decimal_of l ∷ [])
  | accepted r ↦ show r.known.owners (machine (replicate (length r.known.cells) (pos 0)) (replicate (length r.known.cells) undefined) budget)
]

unfoldable pub runscript : List ℕ → ℕ → List ℕ
runscript text budget = scripted strictly (run_of text 16384) text budget

unfoldable pub markscript : List ℕ → ℕ → List ℕ
markscript text budget = scripted loosely (mark_of text 16384) text budget
