-- The table of the source is the specification's list of words, by computation: each row that the code names is that of `rows`. Assumes nothing.
use mathlib.Core.Path.{◌≡◌, refl, sym}
use mathlib.Core.Bool.{Bool, true, false, cond, ◌&&◌, ◌||◌, and-eq-true_iff}
use mathlib.Core.List.{List, [], ◌∷◌, ◌++◌, map}
use Prim.Native.Nat.{ℕ, zero, suc, ◌-◌, ◌<◌, ◌≤◌}
use native.Mathlib.Omega.{arith}
use borrow.Author.Tests.{leb-true, eq-eqb, ne_eqb, eqb-true, eqb-false}
use lib.Dec.{leb, eqb, lit≤}
use lib.ListN.{length, get_or, replicate}
use Rattle.leaf_bytes.specs.Bytes.{bytes}
use Rattle.leaf_reserved.specs.Table.{reserved, operators, fixed, letter, letters, rows}
use Rattle.leaf_reserved.specs.Slots.{has_letters}
use Rattle.leaf_reserved.proofs.Arms.{Missed, count, past-count}

-- ---- each word, filled up with zeros
zeros : (n i : ℕ) → ◌≡◌ {A = ℕ} (get_or (replicate n 0) i 0) 0
zeros zero i = refl
zeros (suc n) zero = refl
zeros (suc n) (suc i) = zeros n i

filled : (w : List ℕ) (n i : ℕ) → get_or (w ++ replicate n 0) i 0 ≡ get_or w i 0
filled [] n i = zeros n i
filled (x ∷ w) n zero = refl
filled (x ∷ w) n (suc i) = filled w n i

abbrev pad : List ℕ → List ℕ
pad w = w ++ replicate (12 - length w) 0

rows_of : (ws : List (List ℕ)) (k i : ℕ) → get_or (get_or (map pad ws) k []) i 0 ≡ get_or (get_or ws k []) i 0
rows_of [] k i = refl
rows_of (w ∷ ws) zero i = filled w (12 - length w) i
rows_of (w ∷ ws) (suc k) i = rows_of ws k i

pub row-letter : (k i : ℕ) → get_or (get_or rows k []) i 0 ≡ letter k i
unfolding rows letter
row-letter k i = rows_of fixed k i

-- ---- `row_of`
pub row_at : (k n : ℕ) (r : List ℕ) → k ≡ n → r ≡ get_or rows n [] → r ≡ get_or rows k []
row_at k n r e f = rw e f

pub row_last : (k : ℕ) (r : List ℕ) → k < 57 → Missed k (Unit {0}) (count 0 56) → r ≡ get_or rows 56 [] → r ≡ get_or rows k []
row_last k r l m = row_at k 56 r (let h = past-count k 0 56 (Unit {0}) (λ t. omega arith) m in omega arith)

pub ruleset row_laws = (row_at, row_last)

-- ---- how many letters a row has

-- no byte of a word is 0, and no word is longer than a row: one test over the list
abbrev lettered : List ℕ → Bool
lettered [] = true
lettered (x ∷ w) = leb 1 x && lettered w

abbrev sound : List (List ℕ) → Bool
sound [] = true
sound (w ∷ ws) = (leb (length w) 12 && lettered w) && sound ws

sound-at : (ws : List (List ℕ)) → sound ws ≡ true → (k : ℕ) → (length (get_or ws k []) ≤ 12) × (lettered (get_or ws k []) ≡ true)
sound-at [] t k = (lit≤ tt, refl)
sound-at (w ∷ ws) t zero =
    let p = (and-eq-true_iff (leb (length w) 12) (lettered w)).0 ((and-eq-true_iff (leb (length w) 12 && lettered w) (sound ws)).0 t).0 in
    (leb-true (length w) 12 p.0, p.1)
sound-at (w ∷ ws) t (suc k) = sound-at ws ((and-eq-true_iff (leb (length w) 12 && lettered w) (sound ws)).0 t).1 k

all_sound : (k : ℕ) → (length (get_or fixed k []) ≤ 12) × (lettered (get_or fixed k []) ≡ true)
unfolding fixed reserved operators bytes
all_sound k = sound-at fixed refl k

pub letters-short : (k : ℕ) → letters k ≤ 12
unfolding letters
letters-short k = (all_sound k).0

-- a byte that is 0 is past the end, and any other is not
ended : (w : List ℕ) (i : ℕ) → lettered w ≡ true → get_or w i 0 ≡ 0 → length w ≤ i
ended [] i t e = omega arith
ended (x ∷ w) zero t e = let l = leb-true 1 x ((and-eq-true_iff (leb 1 x) (lettered w)).0 t).0 in omega arith
ended (x ∷ w) (suc i) t e = let l = ended w i ((and-eq-true_iff (leb 1 x) (lettered w)).0 t).1 e in omega arith

goes_on : (w : List ℕ) (i : ℕ) → ((get_or w i 0 ≡ 0) → ⊥) → i < length w
goes_on [] i n = absurd (n refl)
goes_on (x ∷ w) zero n = omega arith
goes_on (x ∷ w) (suc i) n = let l = goes_on w i n in omega arith

pub letter-none : (k i : ℕ) → letter k i ≡ 0 → letters k ≤ i
unfolding letter letters
letter-none k i = ended (get_or fixed k []) i (all_sound k).1

pub letter-some : (k i : ℕ) → ((letter k i ≡ 0) → ⊥) → i < letters k
unfolding letter letters
letter-some k i = goes_on (get_or fixed k []) i

-- ---- `has_letters`
module _ (row : List ℕ) (n : ℕ) where
  pub has-none : get_or row (n - 1) 0 ≡ 0 → false ≡ has_letters row n
  unfolding has_letters
  has-none e = rw (eq-eqb _ _ e)

  pub has_all : n ≡ 12 → ((get_or row (n - 1) 0 ≡ 0) → ⊥) → true ≡ has_letters row n
  unfolding has_letters
  has_all e d = simp (ne_eqb _ _ d, eq-eqb _ _ e)

  pub has_end : ((n ≡ 12) → ⊥) → ((get_or row (n - 1) 0 ≡ 0) → ⊥) → eqb (get_or row n 0) 0 ≡ has_letters row n
  unfolding has_letters
  has_end m d = simp (ne_eqb _ _ d, ne_eqb _ _ m)

pub ruleset has_laws = (has-none, has_all, has_end)

-- ---- of a row of the table: it has n letters exactly where its word is n bytes long
pub row-letters : (k n : ℕ) (row : List ℕ) → 0 < n → row ≡ get_or rows k [] → has_letters row n ≡ eqb (letters k) n
unfolding has_letters
row-letters k n row l e =
    rw (e, row-letter k (n - 1), row-letter k n) (go (eqb (letter k (n - 1)) 0) (eqb n 12) (eqb (letter k n) 0) refl refl refl)
  where
    go : (s t u : Bool) → eqb (letter k (n - 1)) 0 ≡ s → eqb n 12 ≡ t → eqb (letter k n) 0 ≡ u → cond s false (t || u) ≡ eqb (letters k) n
    go true t u f g h = let m = letter-none k (n - 1) (eqb-true _ _ f) in sym (ne_eqb (letters k) n (λ d. omega arith))
    go false true u f g h =
        let m = letter-some k (n - 1) (eqb-false _ _ f) in
        sym (eq-eqb (letters k) n (omega (arith, letters-short k, eqb-true n 12 g)))
    go false false true f g h =
        let m = letter-some k (n - 1) (eqb-false _ _ f) in
        let o = letter-none k n (eqb-true _ _ h) in sym (eq-eqb (letters k) n (omega arith))
    go false false false f g h = let o = letter-some k n (eqb-false _ _ h) in sym (ne_eqb (letters k) n (λ d. omega arith))
