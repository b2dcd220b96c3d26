-- What the words of cells and of capped places say.
use Rattle.std.proofs.Common.{◌≡◌, ℕ, zero, suc, ◌+◌, ◌*◌, ◌<◌, ◌≤◌, min, Bool, true, false, ◌&&◌, eqb, ltb, leb, ◌⊎◌, List, [], ◌∷◌, get_or, ℤ, pos, negsuc, ◌-ℤ◌, sym, refl, ap, ◌∙◌, subst, inl, inr, true≢false, mul-zero, mul-suc, arith, le-ltb, eqb-true, leb-false, leb-true}
use mathlib.Core.Bool.{and-eq-true_iff}
use lib.Signed.{le_z, lt_z, mag, non_neg}
use Rattle.leaf_integers.specs.Integers.{inside, least, most}
use Rattle.leaf_integers.proofs.Order.{le_not, not-le, le-or-lt}
use Rattle.law.specs.Base.{pick}
use Rattle.law.specs.Calculate.{Result, is, fails, stuck, ◌>>=◌, tested, range_error, undefined_error}
use Rattle.law.specs.Machine.{Store, read_cell, read_cells, is_defined, store_cells, undefined}
use Rattle.code_calc.specs.Words.{greatest, fault_base, word_of, result_of, InRange, Exceptional, Ranged, Means, Holds, first, undefined_word, store_word, all_values, cells_word}
use Rattle.code_calc.proofs.Combining.{fault-again, value-again}
use Rattle.code_calc.proofs.Placing.{index-span, index-up}
use Rattle.code_calc.proofs.Ranging.{low-range, decoded}

-- ---- cells
one-read : (v : Result ℤ) → v ≡ first (v >>= λ z. is (z ∷ []))
one-read (is z) = refl
one-read (fails e) = refl
one-read stuck = refl

pub cell-read : (a : ℕ) (m : Store) → read_cell a m ≡ first (read_cells a 1 m)
unfolding read_cells
cell-read a m = one-read (read_cell a m)

value-fault : {z e : ℤ} → is z ≡ fails e → ⊥
value-fault q = let z : ◌≡◌ {A = ℕ} 0 1 = cc in omega arith

-- a cell gives a value or an Undefined_Error
cell-fails : (a : ℕ) (m : Store) (e : ℤ) → read_cell a m ≡ fails e → read_cell a m ≡ fails undefined_error
unfolding read_cell pick
cell-fails a m e h = go (is_defined (get_or m.marks a undefined)) h
  where
    go : (t : Bool) → pick t (is (get_or m.values a (pos 0))) (fails undefined_error) ≡ fails e → pick t (is (get_or m.values a (pos 0))) (fails undefined_error) ≡ fails undefined_error
    go true q = absurd (value-fault q)
    go false q = refl

as-value : (w : ℤ) → lt_z greatest w ≡ false → result_of w ≡ is w
as-value w e = value-again w e

as-fault : (w : ℤ) → lt_z greatest w ≡ true → result_of w ≡ fails (w -ℤ fault_base)
as-fault w e = fault-again w e

pub zero_word : pos 0 ≡ word_of (is (pos 0))
unfolding word_of
zero_word = refl

pub zero-ranged : Ranged (is (pos 0))
unfolding Ranged
zero-ranged = low-range 0 (omega arith)

undefined-means : Means undefined_word (fails undefined_error)
unfolding word_of Ranged Exceptional inside
undefined-means = record { word = refl; ranged = refl }

pub past_word : (ws : List ℤ) (a : ℕ) → store_cells ≤ a → store_word ws a ≡ undefined_word
unfolding store_word pick
past_word ws a e = rw (le-ltb a store_cells e)

module _ (ws : List ℤ) (m : Store) (h : Holds ws m) where
  cell-is : (a : ℕ) → le_z (store_word ws a) greatest ≡ true → read_cell a m ≡ is (store_word ws a)
  cell-is a e = go (read_cell a m) (h.cells a)
    where
      go : (v : Result ℤ) → Means (store_word ws a) v → v ≡ is (store_word ws a)
      go v q = sym (decoded (store_word ws a) v q) ∙ as-value (store_word ws a) (le_not (store_word ws a) greatest e)

  cell-none : (a : ℕ) → le_z (store_word ws a) greatest ≡ false → read_cell a m ≡ fails undefined_error
  cell-none a e = cell-fails a m (store_word ws a -ℤ fault_base) (sym (decoded (store_word ws a) (read_cell a m) (h.cells a)) ∙ as-fault (store_word ws a) (not-le (store_word ws a) greatest e))

  none_read : (a : ℕ) → Means (pos 0) (first (read_cells a 0 m))
  unfolding read_cells
  none_read a = record { word = zero_word; ranged = zero-ranged }

  up : (a n : ℕ) → all_values ws (a + 1) n ≡ all_values ws (suc a) n
  up a n = ap (λ (q : ℕ). all_values ws q n) (omega arith)

  -- all values are read, or none
  reads : (n a : ℕ) → all_values ws a n ≡ true → (zs : List ℤ) × (read_cells a n m ≡ is zs)
  unfolding read_cells all_values
  reads zero a e = ([], refl)
  reads (suc n) a e =
      let w = (and-eq-true_iff (le_z (store_word ws a) greatest) (all_values ws (a + 1) n)).0 e in
      let r = reads n (suc a) (sym (up a n) ∙ w.1) in
      (store_word ws a ∷ r.0, rw (cell-is a w.0, r.1))

  reads_more : (n a : ℕ) → all_values ws a (suc n) ≡ true → (le_z (store_word ws a) greatest ≡ true) × ((zs : List ℤ) × (read_cells a (suc n) m ≡ is (store_word ws a ∷ zs)))
  unfolding read_cells all_values
  reads_more n a e =
      let w = (and-eq-true_iff (le_z (store_word ws a) greatest) (all_values ws (a + 1) n)).0 e in
      let r = reads n (suc a) (sym (up a n) ∙ w.1) in
      (w.0, (r.0, rw (cell-is a w.0, r.1)))

  reads_none : (n a : ℕ) → all_values ws a n ≡ false → read_cells a n m ≡ fails undefined_error
  unfolding read_cells all_values
  reads_none zero a e = absurd (true≢false e)
  reads_none (suc n) a e = go (λ q. reads_none n (suc a) (sym (up a n) ∙ q)) (le_z (store_word ws a) greatest) refl e
    where
      go : (all_values ws (a + 1) n ≡ false → read_cells (suc a) n m ≡ fails undefined_error) → (t : Bool) → le_z (store_word ws a) greatest ≡ t → (t && all_values ws (a + 1) n) ≡ false
          → (read_cell a m >>= λ z. read_cells (suc a) n m >>= λ zs. is (z ∷ zs)) ≡ fails undefined_error
      go f true q r = rw (cell-is a q, f r)
      go f false q r = rw (cell-none a q)

  pub cells-word : (a n : ℕ) → Means (cells_word ws a n) (first (read_cells a n m))
  unfolding cells_word pick
  cells-word a zero = none_read a
  cells-word a (suc n) = go (all_values ws a (suc n)) refl
    where
      go : (t : Bool) → all_values ws a (suc n) ≡ t → Means (pick t (store_word ws a) undefined_word) (first (read_cells a (suc n) m))
      go true q =
          subst (λ (v : Result (List ℤ)). Means (store_word ws a) (first v)) (sym (reads_more n a q).1.1)
          (subst (λ (v : Result ℤ). Means (store_word ws a) v) (cell-is a (reads_more n a q).0) (h.cells a))
      go false q = subst (λ (v : Result (List ℤ)). Means undefined_word (first v)) (sym (reads_none (suc n) a q)) undefined-means

  -- past every store
  cell-past : (a : ℕ) → store_cells ≤ a → read_cell a m ≡ fails undefined_error
  cell-past a e = cell-none a (rw (past_word ws a e))

  pub capped-cells : (a n : ℕ) → read_cells (min a 4294967295) n m ≡ read_cells a n m
  unfolding read_cells
  capped-cells a zero = refl
  capped-cells a (suc n) = go (leb a 4294967295) refl
    where
      go : (t : Bool) → leb a 4294967295 ≡ t → read_cells (min a 4294967295) (suc n) m ≡ read_cells a (suc n) m
      go true q = ap (λ (b : ℕ). read_cells b (suc n) m) (omega (arith, leb-true a 4294967295 q))
      go false q = rw (cell-past (min a 4294967295) (omega (arith, leb-false a 4294967295 q)), cell-past a (omega (arith, leb-false a 4294967295 q)))

pub one-or-more : (ws : List ℤ) (m : Store) → Holds ws m → (a c : ℕ) → Means (pick (eqb c 1) (store_word ws a) (cells_word ws a c)) (first (read_cells a c m))
unfolding pick
one-or-more ws m h a c = go (eqb c 1) refl
  where
    go : (t : Bool) → eqb c 1 ≡ t → Means (pick t (store_word ws a) (cells_word ws a c)) (first (read_cells a c m))
    go true q = rw (eqb-true c 1 q, ← cell-read a m) (h.cells a)
    go false q = cells-word ws m h a c

-- ---- places, which are capped
pub le-ltb-cap : (a : ℕ) → ltb 9218868437227405311 (min a 4294967295) ≡ false
le-ltb-cap a = le-ltb 9218868437227405311 (min a 4294967295) (omega arith)

pub cap-twice : (a : ℕ) → min (min a 4294967295) 4294967295 ≡ min a 4294967295
cap-twice a = omega arith

pub cap-add : (a t : ℕ) → min (min a 4294967295 + t) 4294967295 ≡ min (a + t) 4294967295
cap-add a t = omega arith

pub cap-times : (a k c : ℕ) → min (min a 4294967295 + min k 4294967295 * c) 4294967295 ≡ min (a + k * c) 4294967295
cap-times a k zero = rw (mul-zero k, mul-zero (min k 4294967295)) (omega arith)
cap-times a k (suc c) = go (le-or-lt k 4294967295)
  where
    go : (k ≤ 4294967295) ⊎ (4294967295 < k) → min (min a 4294967295 + min k 4294967295 * suc c) 4294967295 ≡ min (a + k * suc c) 4294967295
    go (inl h) = let e : min k 4294967295 ≡ k = omega arith in rw e (cap-add a (k * suc c))
    go (inr h) = let e : min k 4294967295 ≡ 4294967295 = omega arith in rw (e, mul-suc k c, mul-suc 4294967295 c) (omega arith)

-- ---- an index's distance
up-range : (z : ℤ) → mag z ≤ 4294967295 → non_neg z ≡ true → InRange z
up-range (pos n) h k = low-range n h
up-range (negsuc n) h k = absurd (true≢false (sym k))

pub test-cases : (lo hi u : ℤ) → inside least most lo ≡ true → inside least most hi ≡ true → Ranged (tested range_error lo hi u >>= λ z. is (z -ℤ lo))
unfolding tested pick Ranged Exceptional inside
test-cases lo hi u p q = go (inside lo hi u) refl
  where
    go : (t : Bool) → inside lo hi u ≡ t → Ranged (pick t (is u) (fails range_error) >>= λ z. is (z -ℤ lo))
    go true h = up-range (u -ℤ lo) (index-span lo hi u p q h) (index-up lo hi u p q h)
    go false h = refl
