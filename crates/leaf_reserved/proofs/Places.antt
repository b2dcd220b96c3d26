-- The place of a word in the table: the first that is the same, case ignored. Assumes nothing.
use mathlib.Core.Path.{◌≡◌, refl, sym, ap, subst, ◌∙◌}
use mathlib.Core.Bool.{Bool, true, false}
use mathlib.Core.List.{List, [], ◌∷◌, map}
use Prim.Native.Nat.{ℕ, zero, suc, ◌+◌, ◌<◌, ◌≤◌}
use native.Mathlib.Nat.{le_of_suc-le-suc, not-suc-le-zero}
use native.Mathlib.Omega.{arith}
use borrow.Author.Count.{below_more}
use borrow.Author.Tests.{eqb-true, eqb-false}
use lib.Dec.{eqb}
use lib.ListN.{length, get_or}
use Rattle.leaf_bytes.specs.Bytes.{bytes, small, same}
use Rattle.leaf_reserved.specs.Table.{reserved, operators, fixed, letter, letters, rows, position, is_fixed, place_of}
use Rattle.leaf_reserved.specs.Slots.{slot_of, guess, has_letters}
use Rattle.leaf_reserved.proofs.Arms.{count}
use Rattle.leaf_reserved.proofs.Rows.{letters-short, row-letter, row-letters}
use Rattle.leaf_reserved.proofs.Guesses.{guess-is, numbered}
use Rattle.leaf_bytes.proofs.Same.{other_length, other_byte, all-bytes}

pub fixed-count : length fixed ≡ 57
unfolding fixed reserved operators bytes
fixed-count = refl

-- ---- `is_fixed`

-- the bytes before place i are those of word k, case ignored
abbrev pub Spells : List ℕ → ℕ → ℕ → Type 0
Spells w k i = (j : ℕ) → j < i → small (get_or w j 0) ≡ letter k j

module _ (w : List ℕ) (k : ℕ) where
  fixed-other : ((length w ≡ letters k) → ⊥) → false ≡ is_fixed w k
  unfolding is_fixed letters
  fixed-other d = other_length w (get_or fixed k []) d

  module _ (row : List ℕ) (e : row ≡ get_or rows k []) where
    pub fixed-length : (t : Bool) → 0 < length w → t ≡ has_letters row (length w) → t ≡ false → false ≡ is_fixed w k
    fixed-length t l f g = fixed-other (λ d. eqb-false _ _ (sym (row-letters k (length w) row l e) ∙ sym f ∙ g) (sym d))

    pub fixed-byte : (i x : ℕ) → x ≡ small (get_or w i 0) → ((x ≡ get_or row i 0) → ⊥) → false ≡ is_fixed w k
    unfolding is_fixed letter
    fixed-byte i x f d = other_byte w (get_or fixed k []) i (λ h. d (f ∙ h ∙ sym (ap (λ (r : List ℕ). get_or r i 0) e ∙ row-letter k i)))

    pub fixed-all : (t : Bool) (i : ℕ) → 0 < length w → t ≡ has_letters row (length w) → t ≡ true → length w ≤ i → Spells w k i → true ≡ is_fixed w k
    unfolding is_fixed letters letter
    fixed-all t i l f g m h =
        all-bytes w (get_or fixed k []) (sym (eqb-true _ _ (sym (row-letters k (length w) row l e) ∙ sym f ∙ g))) (λ j o. h j (omega arith))

    -- written out, as `search` looks for it: Spells w k (i + 1)
    pub fixed_more : (i x : ℕ) → x ≡ small (get_or w i 0) → x ≡ get_or row i 0 → Spells w k i → (j : ℕ) → j < i + 1 → small (get_or w j 0) ≡ letter k j
    fixed_more i x f g h = below_more _ i h (sym f ∙ g ∙ ap (λ (r : List ℕ). get_or r i 0) e ∙ row-letter k i)

pub ruleset fixed_laws = (fixed-length, fixed-byte, fixed-all, fixed_more)

-- ---- `place_of`
first-is : (w : List ℕ) (vs : List (List ℕ)) (k : ℕ) → ((j : ℕ) → j < k → same w (get_or vs j []) ≡ false) → k < length vs
    → same w (get_or vs k []) ≡ true → k ≡ position w vs
unfolding position
first-is w [] k off l e = absurd (not-suc-le-zero l)
first-is w (v ∷ vs) zero off l e = rw e
first-is w (v ∷ vs) (suc k) off l e =
    rw (off 0 (omega arith)) (ap suc (first-is w vs k (λ j h. off (suc j) (omega arith)) (le_of_suc-le-suc l) e))

none_is : (w : List ℕ) (vs : List (List ℕ)) → ((j : ℕ) → j < length vs → same w (get_or vs j []) ≡ false) → length vs ≡ position w vs
unfolding position
none_is w [] off = refl
none_is w (v ∷ vs) off = rw (off 0 (omega arith)) (ap suc (none_is w vs (λ j h. off (suc j) (omega arith))))

fails : (t : Bool) → ((t ≡ true) → ⊥) → t ≡ false
fails true h = absurd (h refl)
fails false h = refl

pub place-empty : (w : List ℕ) → length w ≡ 0 → place_of w ≡ 57
unfolding place_of position same fixed reserved operators bytes
place-empty [] e = refl
place-empty (b ∷ w) e = absurd (omega arith)

module _ (w : List ℕ) where
  -- no word of the table is w
  place_none : ((j : ℕ) → j < 57 → is_fixed w j ≡ false) → place_of w ≡ 57
  unfolding is_fixed place_of
  place_none off = sym (sym fixed-count ∙ none_is (map small w) fixed (λ j h. off j (omega (arith, fixed-count))))

  -- it has more bytes than any word
  pub place-long : 12 < length w → place_of w ≡ 57
  place-long l = place_none (λ j h. sym (fixed-other w j (λ e. omega (arith, letters-short j))))

  -- by the guess k
  module _ (h k : ℕ) (e : h ≡ slot_of w) (f : k ≡ guess h) where
    other : (j : ℕ) → j < 57 → ((j ≡ k) → ⊥) → is_fixed w j ≡ false
    other j l d = fails (is_fixed w j) (λ t. d (sym (f ∙ ap guess e ∙ guess-is w j l t)))

    pub place-missed : 57 ≤ k → place_of w ≡ 57
    place-missed g = place_none (λ j l. other j l (λ d. omega arith))

    module _ (l : k < 57) (t : Bool) (g : t ≡ is_fixed w k) where
      pub place_found : t ≡ true → k ≡ place_of w
      unfolding is_fixed place_of
      place_found i = first-is (map small w) fixed k (λ j m. other j (omega arith) (λ o. omega arith)) (subst (λ (n : ℕ). k < n) (sym fixed-count) l) (sym g ∙ i)

      pub place_other : t ≡ false → place_of w ≡ 57
      place_other i = place_none (λ j m. go j m (eqb j k) refl)
        where
          go : (j : ℕ) → j < 57 → (b : Bool) → eqb j k ≡ b → is_fixed w j ≡ false
          go j m true b = subst (λ (n : ℕ). is_fixed w n ≡ false) (sym (eqb-true j k b)) (sym g ∙ i)
          go j m false b = other j m (eqb-false j k b)

pub ruleset place_laws = (place-empty, place-long, place-missed, place_found, place_other)

-- ---- no word stands twice: each word's place is where it stands
places : map place_of fixed ≡ count 0 57
unfolding place_of position same small fixed reserved operators bytes
places = refl

pub place_at : (k : ℕ) → k < 57 → place_of (get_or fixed k []) ≡ k
place_at k l = numbered place_of places k l
