-- The store after values were put into cells, as its words show it.
use mathlib.Core.Path.{◌≡◌, refl, sym, ap, subst, ◌∙◌}
use mathlib.Core.Bool.{Bool, true, false, ◌&&◌}
use mathlib.Core.List.{List, [], ◌∷◌, map}
use mathlib.Core.Logic.{◌⊎◌, inl, inr}
use Prim.Native.Nat.{ℕ, zero, suc, ◌+◌, ◌-◌, ◌<◌, ◌≤◌, min}
use native.Mathlib.Omega.{arith}
use borrow.Author.Rules.{sfits_of}
use lib.IntN.{ℤ, pos, negsuc}
use lib.Dec.{T}
use lib.Signed.{le_z, lt_z}
use lib.ListN.{length, get_or, set, replicate, length-replicate, get_or-replicate, length-set, length-map, get_or-eq_default}
use lib.Seq as Seq
use lib.Seq.{get_or-set_same, get_or-set_other, length-sets}
use mir.Syntax.{w64}
use mir.Val.{SFits}
use mir.Facts.{to_z-of_z}
use Rattle.leaf_integers.specs.Integers.{inside}
use Rattle.leaf_integers.proofs.Machine.{wire}
use Rattle.leaf_integers.proofs.Order.{le-or-lt, le_not, not-le}
use Rattle.law.specs.Base.{pick}
use Rattle.law.specs.Calculate.{is, fails, range_error, undefined_error}
use Rattle.law.specs.Machine.{Store, State, state, answer, branch, normal, raising, forgotten, overwritten, stored, read_cell, read_cells, defined, undefined, is_defined, store_cells, store_ordinal, store_whole}
use Rattle.code_calc.specs.Words.{greatest, store_word, store_words, latest_at, latest_in, place_at, InRange, Exceptional, Ranged, word_of, Means, Holds, all_values, cells_word, undefined_word, value_in, mark_in}
use Rattle.code_calc.proofs.Loading.{past_word}
use Rattle.code_calc.proofs.Ranging.{range-value}
use Rattle.mark_steps.specs.Ends.{fault_in, Raises}
use Rattle.mark_steps.specs.Stands.{Tidy, Stands, Ends}
use Rattle.mark_cells.specs.Cells.{Addresses, Puts, Copies, Copying, CellsAre, Fills, Gives, Forgets, StoresOrdinal, StoresOne, StoresCells}
use Rattle.mark_cells.proofs.Storing.{put-at, put_other, put-long, put-beside}
use Rattle.mark_cells.proofs.Ending.{Value, Faulty, word_value, value-not-fault, left-most, normal-ends, raising-ends, raised-fewer, raised-low}

-- ---- a list after a run of stores
module _ {A : Type 0} where
  sets-before : (vs l : List A) (a i : ℕ) (d : A) → i < a → get_or (Seq.sets l a vs) i d ≡ get_or l i d
  sets-before [] l a i d h = refl
  sets-before (v ∷ vs) l a i d h = sets-before vs (set l a v) (suc a) i d (omega arith) ∙ get_or-set_other l a i v d (λ e. absurd (omega (arith, e)))

  sets-after : (vs l : List A) (a i : ℕ) (d : A) → a + length vs ≤ i → get_or (Seq.sets l a vs) i d ≡ get_or l i d
  sets-after [] l a i d h = refl
  sets-after (v ∷ vs) l a i d h = sets-after vs (set l a v) (suc a) i d (omega arith) ∙ get_or-set_other l a i v d (λ e. absurd (omega (arith, e)))

  sets-at : (vs l : List A) (a j : ℕ) (d : A) → j < length vs → a + j < length l → get_or (Seq.sets l a vs) (a + j) d ≡ get_or vs j d
  sets-at [] l a j d h g = absurd (omega arith)
  sets-at (v ∷ vs) l a zero d h g =
      ap (λ (i : ℕ). get_or (Seq.sets (set l a v) (suc a) vs) i d) (omega arith) ∙ sets-before vs (set l a v) (suc a) a d (omega arith) ∙ get_or-set_same l a v d (omega arith)
  sets-at (v ∷ vs) l a (suc j) d h g =
      ap (λ (i : ℕ). get_or (Seq.sets (set l a v) (suc a) vs) i d) (omega arith)
      ∙ sets-at vs (set l a v) (suc a) j d (omega arith) (omega (arith, length-set l a v))

  sets-past : (vs l : List A) (a i : ℕ) (d : A) → length l ≤ i → get_or (Seq.sets l a vs) i d ≡ get_or l i d
  sets-past vs l a i d h = get_or-eq_default (Seq.sets l a vs) d (omega (arith, length-sets l a vs)) ∙ sym (get_or-eq_default l d h)

map_at : {A : Type 0} (f : ℤ → A) (us : List ℤ) (j : ℕ) (d : A) (u : ℤ) → j < length us → get_or (map f us) j d ≡ f (get_or us j u)
map_at f [] j d u h = absurd (omega arith)
map_at f (x ∷ us) zero d u h = refl
map_at f (x ∷ us) (suc j) d u h = map_at f us j d u (omega arith)

-- ---- the words of cells after a store of words, and the cells: each word is a value's, or that of an undefined cell
abbrev pub Written : List ℤ → ℕ → List ℤ → List ℤ → Type 0
Written ws a us ws' = Fills ws a (λ j. get_or us j (pos 0)) (length us) ws'

abbrev CellWord : ℤ → Type 0
CellWord w = InRange w ⊎ (w ≡ undefined_word)

abbrev pub AllRanged : List ℤ → Type 0
AllRanged zs = (j : ℕ) → j < length zs → InRange (get_or zs j (pos 0))

value-word : (z : ℤ) → InRange z → (value_in z ≡ z) × (mark_in z ≡ defined)
unfolding value_in mark_in pick
value-word z h = rw (range-value z h) (refl, refl)

-- a cell with the value and the mark that its word says
word-means : (w : ℤ) → CellWord w → Means w (pick (is_defined (mark_in w)) (is (value_in w)) (fails undefined_error))
unfolding value_in mark_in pick word_of Ranged Exceptional inside
word-means w (inl h) = rw (range-value w h) (record { word = refl; ranged = h })
word-means w (inr e) = rw e (record { word = refl; ranged = refl })

word-tidy : (w : ℤ) → CellWord w → Tidy (mark_in w) (value_in w)
unfolding value_in mark_in pick
word-tidy w (inl h) = inl (value-word w h).1
word-tidy w (inr e) = inr (ap mark_in e, ap value_in e)

-- where a cell stands to those that were stored
data Side (a k i : ℕ) : Type 0 where
  before : i < a → Side a k i
  beyond : a + k ≤ i → Side a k i
  outside : store_cells ≤ i → Side a k i
  within : (j : ℕ) → j < k → a + j < store_cells → a + j ≡ i → Side a k i

side : (a k i : ℕ) → Side a k i
side a k i = first (le-or-lt a i)
  where
    third : a ≤ i → i < a + k → (store_cells ≤ i) ⊎ (i < store_cells) → Side a k i
    third h g (inl f) = outside f
    third h g (inr f) = within (i - a) (omega arith) (omega arith) (omega arith)

    second : a ≤ i → (a + k ≤ i) ⊎ (i < a + k) → Side a k i
    second h (inl g) = beyond g
    second h (inr g) = third h g (le-or-lt store_cells i)

    first : (a ≤ i) ⊎ (i < a) → Side a k i
    first (inr h) = before h
    first (inl h) = second h (le-or-lt (a + k) i)

module _ (ws : List ℤ) (s : ℕ) (m : Store) (a : ℕ) (us ws' : List ℤ) (S : Stands ws s m) (R : (j : ℕ) → j < length us → CellWord (get_or us j (pos 0))) (W : Written ws a us ws') where
  after : Store
  after = overwritten a (map value_in us) (map mark_in us) m

  -- a cell that is as it was, and one that was stored
  data Cell (i : ℕ) : Type 0 where
    kept : store_word ws' i ≡ store_word ws i → get_or (Seq.sets m.marks a (map mark_in us)) i 0 ≡ get_or m.marks i 0 → get_or (Seq.sets m.values a (map value_in us)) i (pos 0) ≡ get_or m.values i (pos 0) → Cell i
    new : (w : ℤ) → CellWord w → store_word ws' i ≡ w → get_or (Seq.sets m.marks a (map mark_in us)) i 0 ≡ mark_in w → get_or (Seq.sets m.values a (map value_in us)) i (pos 0) ≡ value_in w → Cell i

  cell : (i : ℕ) → Side a (length us) i → Cell i
  cell i (before h) = kept (W.below i h) (sets-before (map mark_in us) m.marks a i 0 h) (sets-before (map value_in us) m.values a i (pos 0) h)
  cell i (beyond h) =
      kept (W.above i h) (sets-after (map mark_in us) m.marks a i 0 (omega (arith, length-map us mark_in))) (sets-after (map value_in us) m.values a i (pos 0) (omega (arith, length-map us value_in)))
  cell i (outside h) =
      kept (past_word ws' i h ∙ sym (past_word ws i h)) (sets-past (map mark_in us) m.marks a i 0 (omega (arith, S.marks))) (sets-past (map value_in us) m.values a i (pos 0) (omega (arith, S.values)))
  cell i (within j h g e) = new (get_or us j (pos 0)) (R j h)
      (ap (store_word ws') (sym e) ∙ W.here j h g)
      (ap (λ (k : ℕ). get_or (Seq.sets m.marks a (map mark_in us)) k 0) (sym e) ∙ sets-at (map mark_in us) m.marks a j 0 (omega (arith, length-map us mark_in)) (omega (arith, S.marks)) ∙ map_at mark_in us j 0 (pos 0) h)
      (ap (λ (k : ℕ). get_or (Seq.sets m.values a (map value_in us)) k (pos 0)) (sym e)
      ∙ sets-at (map value_in us) m.values a j (pos 0) (omega (arith, length-map us value_in)) (omega (arith, S.values)) ∙ map_at value_in us j (pos 0) (pos 0) h)

  cell-read : (i k : ℕ) (v : ℤ) → get_or (Seq.sets m.marks a (map mark_in us)) i 0 ≡ k → get_or (Seq.sets m.values a (map value_in us)) i (pos 0) ≡ v
      → read_cell i after ≡ pick (is_defined k) (is v) (fails undefined_error)
  unfolding read_cell after
  cell-read i k v f g = rw (f, g)

  cell-means : (i : ℕ) → Cell i → Means (store_word ws' i) (read_cell i after)
  unfolding read_cell
  cell-means i (kept e f g) =
      let r : read_cell i after ≡ read_cell i m = cell-read i (get_or m.marks i 0) (get_or m.values i (pos 0)) f g in
      record { word = e ∙ (S.holds.cells i).word ∙ ap word_of (sym r); ranged = subst Ranged (sym r) (S.holds.cells i).ranged }
  cell-means i (new w c e f g) =
      let r : read_cell i after ≡ pick (is_defined (mark_in w)) (is (value_in w)) (fails undefined_error) = cell-read i (mark_in w) (value_in w) f g in
      record { word = e ∙ (word-means w c).word ∙ ap word_of (sym r); ranged = subst Ranged (sym r) (word-means w c).ranged }

  cell-tidy : (i : ℕ) → Cell i → Tidy (get_or (Seq.sets m.marks a (map mark_in us)) i 0) (get_or (Seq.sets m.values a (map value_in us)) i (pos 0))
  cell-tidy i (kept e f g) = rw (f, g) (S.tidy i)
  cell-tidy i (new w c e f g) = rw (f, g) (word-tidy w c)

  same-latest : latest_in ws' ≡ latest_in ws
  unfolding latest_in
  same-latest = W.beside latest_at (omega arith)

  pub written_stands : Stands ws' s (overwritten a (map value_in us) (map mark_in us) m)
  unfolding after
  written_stands = record {
    long = W.long ∙ S.long;
    steps = S.steps;
    holds = record {
      cells = λ i. cell-means i (cell i (side a (length us) i));
      last = S.holds.last ∙ sym same-latest;
      last-ranged = subst InRange (sym same-latest) S.holds.last-ranged;
    };
    place = W.beside place_at (omega arith) ∙ S.place;
    small = S.small;
    values = length-sets m.values a (map value_in us) ∙ S.values;
    marks = length-sets m.marks a (map mark_in us) ∙ S.marks;
    tidy = λ i. cell-tidy i (cell i (side a (length us) i));
  }

-- values alone
values_same : (zs : List ℤ) → AllRanged zs → map value_in zs ≡ zs
values_same [] R = refl
values_same (z ∷ zs) R = rw ((value-word z (R 0 (omega arith))).0, values_same zs (λ j h. R (suc j) (omega arith)))

marks-same : (zs : List ℤ) → AllRanged zs → map mark_in zs ≡ replicate (length zs) defined
marks-same [] R = refl
marks-same (z ∷ zs) R = rw ((value-word z (R 0 (omega arith))).1, marks-same zs (λ j h. R (suc j) (omega arith)))

pub stored-stands : (ws : List ℤ) (s : ℕ) (m : Store) (a : ℕ) (zs ws' : List ℤ) → Stands ws s m → AllRanged zs → Written ws a zs ws' → Stands ws' s (stored a zs m)
stored-stands ws s m a zs ws' S R W =
    subst (λ (ms : List ℕ). Stands ws' s (overwritten a zs ms m)) (marks-same zs R)
    (subst (λ (vs : List ℤ). Stands ws' s (overwritten a vs (map mark_in zs) m)) (values_same zs R) (written_stands ws s m a zs ws' S (λ j h. inl (R j h)) W))

-- ---- the parameters of a call: its arguments, and nothing
pub given-stands : (ws : List ℤ) (s : ℕ) (m : Store) (a k : ℕ) (us zs ws' : List ℤ) → Stands ws s m → AllRanged zs → length zs ≡ k → ((j : ℕ) → j < k → get_or us j (pos 0) ≡ get_or zs j (pos 0)) → Gives ws a k us ws'
    → Stands ws' s (stored a zs m)
given-stands ws s m a k us zs ws' S R l e G = go (G.says S.long)
  where
    go : Fills ws a (λ j. get_or us j (pos 0)) k ws' → Stands ws' s (stored a zs m)
    go F = stored-stands ws s m a zs ws' S R (record {
      here = λ j h g. F.here j (omega (arith, l, h)) g ∙ e j (omega (arith, l, h));
      below = F.below;
      above = λ i h. F.above i (omega (arith, l, h));
      long = F.long;
      beside = F.beside;
    })

undefined-values : (k : ℕ) → map value_in (replicate k undefined_word) ≡ replicate k (pos 0)
unfolding value_in pick
undefined-values zero = refl
undefined-values (suc k) = ap (λ (zs : List ℤ). pos 0 ∷ zs) (undefined-values k)

undefined-marks : (k : ℕ) → map mark_in (replicate k undefined_word) ≡ replicate k undefined
unfolding mark_in pick
undefined-marks zero = refl
undefined-marks (suc k) = ap (λ (ms : List ℕ). undefined ∷ ms) (undefined-marks k)

module _ (ws : List ℤ) (a k : ℕ) (ws' : List ℤ) (F : Fills ws a (λ j. undefined_word) k ws') where
  count : length (replicate k undefined_word) ≡ k
  count = length-replicate k undefined_word

  undefined-at : (j : ℕ) → j < length (replicate k undefined_word) → get_or (replicate k undefined_word) j (pos 0) ≡ undefined_word
  undefined-at j h = get_or-replicate k j undefined_word (pos 0) (omega (arith, h, count))

  undefined-written : Written ws a (replicate k undefined_word) ws'
  undefined-written = record {
    here = λ j h g. F.here j (omega (arith, h, count)) g ∙ sym (undefined-at j h);
    below = F.below;
    above = λ i h. F.above i (omega (arith, h, count));
    long = F.long;
    beside = F.beside;
  }

  undefined-stands : (s : ℕ) (m : Store) → Stands ws s m → Stands ws' s (forgotten a k m)
  undefined-stands s m S =
      subst (λ (ms : List ℕ). Stands ws' s (overwritten a (replicate k (pos 0)) ms m)) (undefined-marks k)
      (subst (λ (vs : List ℤ). Stands ws' s (overwritten a vs (map mark_in (replicate k undefined_word)) m)) (undefined-values k)
      (written_stands ws s m a (replicate k undefined_word) ws' S (λ j h. inr (undefined-at j h)) undefined-written))

pub forgotten-stands : (ws : List ℤ) (s : ℕ) (m : Store) (a k : ℕ) (ws' : List ℤ) → Stands ws s m → Forgets ws a k ws' → Stands ws' s (forgotten a k m)
forgotten-stands ws s m a k ws' S G = undefined-stands ws a k ws' (G.says S.long) s m S

-- ---- one cell; the place was capped, where no store has a cell
module _ (ws : List ℤ) (a b : ℕ) (us ws' : List ℤ) (e : b ≡ min a 4294967295) where
  -- past every cell nothing is stored
  none_written : ((i : ℕ) → store_word ws' i ≡ store_word ws i) → length ws' ≡ length ws → ((i : ℕ) → store_cells ≤ i → get_or ws' i (pos 0) ≡ get_or ws i (pos 0)) → store_cells ≤ a → Written ws a us ws'
  none_written h l b g = record { here = λ j i k. absurd (omega arith); below = λ i k. h i; above = λ i k. h i; long = l; beside = b }

  unput : (z : ℤ) → Puts ws b z ws' → store_cells ≤ b → (i : ℕ) → (store_cells ≤ i) ⊎ (i < store_cells) → store_word ws' i ≡ store_word ws i
  unput z P h i (inl g) = past_word ws' i g ∙ sym (past_word ws i g)
  unput z P h i (inr g) = put_other P i (λ k. absurd (omega (arith, k, g, h)))

  one_written : (z : ℤ) → length ws ≡ store_words → Puts ws a z ws' → us ≡ z ∷ [] → Written ws a us ws'
  one_written z l P f = record {
    here = λ j i k. here j (omega (arith, i, ap length f)) k;
    below = λ i h. put_other P i (λ k. absurd (omega (arith, k, h)));
    above = λ i h. put_other P i (λ k. absurd (omega (arith, k, h, ap length f)));
    long = put-long P;
    beside = put-beside P;
  }
    where
      here : (j : ℕ) → j ≡ 0 → a + j < store_cells → store_word ws' (a + j) ≡ get_or us j (pos 0)
      here j h k =
          ap (store_word ws') (omega (arith, h)) ∙ put-at P l (omega (arith, h, k)) ∙ sym (ap (λ (y : List ℤ). get_or y j (pos 0)) f ∙ ap (λ (i : ℕ). get_or (z ∷ []) i (pos 0)) h)

  pub put_written : (z : ℤ) → length ws ≡ store_words → Puts ws b z ws' → us ≡ z ∷ [] → Written ws a us ws'
  put_written z l P f = go (le-or-lt a 4294967295)
    where
      go : (a ≤ 4294967295) ⊎ (4294967295 < a) → Written ws a us ws'
      go (inl h) = one_written z l (subst (λ (x : ℕ). Puts ws x z ws') (omega (arith, e, h)) P) f
      go (inr h) = none_written (λ i. unput z P (omega (arith, e, h)) i (le-or-lt store_cells i)) (put-long P) (put-beside P) (omega arith)

  uncopied : (s k : ℕ) → Copies ws s b 0 k ws' → store_cells ≤ b → (i : ℕ) → (store_cells ≤ i) ⊎ (i < store_cells) → store_word ws' i ≡ store_word ws i
  uncopied s k C h i (inl g) = past_word ws' i g ∙ sym (past_word ws i g)
  uncopied s k C h i (inr g) = C.below i (omega arith)

  all-written : (s : ℕ) → ((j : ℕ) → j < length us → store_word ws (s + j) ≡ get_or us j (pos 0)) → Copies ws s a 0 (length us) ws' → Written ws a us ws'
  all-written s g C = record {
    here = λ j i k. C.here j (omega arith) i k ∙ g j i;
    below = λ i h. C.below i (omega arith);
    above = λ i h. C.above i h;
    long = C.long;
    beside = C.beside;
  }

  pub copy_written : (s : ℕ) → ((j : ℕ) → j < length us → store_word ws (s + j) ≡ get_or us j (pos 0)) → Copies ws s b 0 (length us) ws' → Written ws a us ws'
  copy_written s g C = go (le-or-lt a 4294967295)
    where
      go : (a ≤ 4294967295) ⊎ (4294967295 < a) → Written ws a us ws'
      go (inl h) = all-written s g (subst (λ (x : ℕ). Copies ws s x 0 (length us) ws') (omega (arith, e, h)) C)
      go (inr h) = none_written (λ i. uncopied s (length us) C (omega (arith, e, h)) i (le-or-lt store_cells i)) C.long C.beside (omega arith)

-- one cell stored
pub put-stands : (ws : List ℤ) (s : ℕ) (m : Store) (a b : ℕ) (z : ℤ) (ws' : List ℤ) → Stands ws s m → InRange z → b ≡ min a 4294967295
    → Puts ws b z ws' → Stands ws' s (stored a (z ∷ []) m)
put-stands ws s m a b z ws' S h e P =
    stored-stands ws s m a (z ∷ []) ws' S one (put_written ws a b (z ∷ []) ws' e z S.long P refl)
  where
    one : AllRanged (z ∷ [])
    one zero g = h
    one (suc j) g = absurd (omega arith)

-- ---- `store_ordinal`
module _ (n : ℕ) (lo hi w x : ℤ) (ws : List ℤ) (s : ℕ) (r : ℕ) (fl : SFits w64 lo) (fh : SFits w64 hi) (fx : SFits w64 x) (o : Bool) (I : o ≡ inside (wire lo) (wire hi) (wire x)) where
  in_bounds : inside lo hi x ≡ o
  in_bounds = sym (I ∙ rw (to_z-of_z fl, to_z-of_z fh, to_z-of_z fx))

  pub ordinal-out : (ws' : List ℤ) → o ≡ false → Raises (negsuc 102) n ws s ws' r → StoresOrdinal n lo hi w x ws s ws' r
  unfolding store_ordinal InRange inside
  ordinal-out ws' y R = record {
    says = λ q a e. record {
      says = λ m S. subst (λ (b : Bool). Ends (branch b (λ (t : State). answer normal (state (stored a (x ∷ []) t.store) t.left)) (raising range_error n) (state m s)) ws' r) (sym (in_bounds ∙ y))
          (raising-ends ws s m S range_error n ws' r refl R);
    };
    fewer = raised-fewer (negsuc 102) n ws s ws' r R;
    plain = λ h. raised-low s r R.word;
  }

  pub ordinal-in : (b : ℕ) (ws' : List ℤ) → SFits w64 w → o ≡ true → Addresses (wire w) b → Puts ws b (wire x) ws' → r ≡ s → StoresOrdinal n lo hi w x ws s ws' r
  unfolding store_ordinal
  ordinal-in b ws' fw y B W z = subst (λ (t : ℕ). StoresOrdinal n lo hi w x ws s ws' t) (sym z) (record {
    says = λ q a e. record {
      says = λ m S. subst (λ (b : Bool). Ends (branch b (λ (t : State). answer normal (state (stored a (x ∷ []) t.store) t.left)) (raising range_error n) (state m s)) ws' s) (sym (in_bounds ∙ y))
          (normal-ends ws' s (stored a (x ∷ []) m)
          (put-stands ws s m a b x ws' S q (B.says (min a 4294967295) (omega arith) (to_z-of_z fw ∙ e)) (rw (to_z-of_z fx) at W)));
    };
    fewer = left-most s;
    plain = λ h. omega arith;
  })

pub ruleset ordinal_laws = (ordinal-out, ordinal-in, sfits_of)

-- ---- `store_one`, `store_cells`
module _ (n : ℕ) (w : ℤ) (ws : List ℤ) (s : ℕ) (b : ℕ) (ws' : List ℤ) (r : ℕ) (fw : SFits w64 w) (B : Addresses (wire w) b) where
  spot : (a : ℕ) → w ≡ pos (min a 4294967295) → b ≡ min a 4294967295
  spot a e = B.says (min a 4294967295) (omega arith) (to_z-of_z fw ∙ e)

  pub one-put : (x : ℤ) → SFits w64 x → Puts ws b (wire x) ws' → r ≡ s → StoresOne n w x ws s ws' r
  unfolding store_whole
  one-put x fx W z = subst (λ (t : ℕ). StoresOne n w x ws s ws' t) (sym z) (record {
    says = λ q a e. record { says = λ m S. normal-ends ws' s (stored a (x ∷ []) m) (put-stands ws s m a b x ws' S q (spot a e) (rw (to_z-of_z fx) at W)) };
    fewer = left-most s;
    plain = λ h. omega arith;
  })

  pub cells-copied : (c k : ℕ) → Copying ws c b k ws' → r ≡ s → StoresCells n c k w ws s ws' r
  unfolding store_whole
  cells-copied c k W z = subst (λ (t : ℕ). StoresCells n c k w ws s ws' t) (sym z) (record {
    says = λ zs C a e. record {
      says = λ m S. normal-ends ws' s (stored a zs m)
          (stored-stands ws s m a zs ws' S C.ranged (copy_written ws a b zs ws' (spot a e) c C.here (subst (λ (i : ℕ). Copies ws c b 0 i ws') (sym C.count) (W.leaves S.long))));
    };
    fewer = left-most s;
    plain = λ h. omega arith;
  })

-- ---- cells that are read: each is a value, or all fail
pub record AllRead (ws : List ℤ) (m : Store) (a n : ℕ) : Type 0 where
  pub zs : List ℤ
  pub gives : read_cells a n m ≡ is zs
  pub cells : CellsAre ws a n zs

and_left : (a b : Bool) → a && b ≡ true → a ≡ true
and_left true b h = refl
and_left false b h = h

and_right : (a b : Bool) → a && b ≡ true → b ≡ true
and_right true b h = h
and_right false b h = absurd (subst T (sym h) tt)

module _ (ws : List ℤ) (m : Store) (H : Holds ws m) where
  low-cell : (a : ℕ) → le_z (store_word ws a) greatest ≡ true → Value (read_cell a m) (store_word ws a)
  low-cell a h = word_value (read_cell a m) (store_word ws a) (H.cells a) (le_not (store_word ws a) greatest h)

  -- an undefined cell is the only fault
  high-cell : (a : ℕ) → le_z (store_word ws a) greatest ≡ false → read_cell a m ≡ fails undefined_error
  unfolding read_cell pick
  high-cell a h = go (is_defined (get_or m.marks a undefined)) refl
    where
      go : (b : Bool) → is_defined (get_or m.marks a undefined) ≡ b → read_cell a m ≡ fails undefined_error
      go true e =
          let r : read_cell a m ≡ is (get_or m.values a (pos 0)) = ap (λ (b : Bool). pick b (is (get_or m.values a (pos 0))) (fails undefined_error)) e in
          absurd (value-not-fault (get_or m.values a (pos 0)) (store_word ws a) (subst (Means (store_word ws a)) r (H.cells a)) (not-le (store_word ws a) greatest h))
      go false e = ap (λ (b : Bool). pick b (is (get_or m.values a (pos 0))) (fails undefined_error)) e

  pub cells-read : (n a : ℕ) → all_values ws a n ≡ true → AllRead ws m a n
  unfolding all_values read_cells
  cells-read zero a h = record { zs = []; gives = refl; cells = record { count = refl; here = λ j g. absurd (omega arith); ranged = λ j g. absurd (omega arith) } }
  cells-read (suc n) a h =
      let f : le_z (store_word ws a) greatest ≡ true = and_left (le_z (store_word ws a) greatest) (all_values ws (a + 1) n) h in
      let C : Value (read_cell a m) (store_word ws a) = low-cell a f in
      let R : AllRead ws m (a + 1) n = cells-read n (a + 1) (and_right (le_z (store_word ws a) greatest) (all_values ws (a + 1) n) h) in
      let g : read_cells (suc a) n m ≡ is R.zs = ap (λ (x : ℕ). read_cells x n m) (omega arith) ∙ R.gives in
      record {
        zs = store_word ws a ∷ R.zs;
        gives = rw (C.gives, g);
        cells = record { count = ap suc R.cells.count; here = here a R.zs R.cells.here; ranged = ranged a R.zs C.ranged R.cells.ranged };
      }
    where
      here : (a : ℕ) (zs : List ℤ) → ((j : ℕ) → j < length zs → store_word ws (a + 1 + j) ≡ get_or zs j (pos 0)) → (j : ℕ) → j < length (store_word ws a ∷ zs) → store_word ws (a + j) ≡ get_or (store_word ws a ∷ zs) j (pos 0)
      here a zs f zero g = ap (store_word ws) (omega arith)
      here a zs f (suc j) g = ap (store_word ws) (omega arith) ∙ f j (omega arith)

      ranged : (a : ℕ) (zs : List ℤ) → InRange (store_word ws a) → AllRanged zs → AllRanged (store_word ws a ∷ zs)
      ranged a zs f r zero g = f
      ranged a zs f r (suc j) g = r j (omega arith)

  pub cells-fail : (n a : ℕ) → all_values ws a n ≡ false → read_cells a n m ≡ fails undefined_error
  unfolding all_values read_cells
  cells-fail zero a h = absurd (subst T h tt)
  cells-fail (suc n) a h = go (le_z (store_word ws a) greatest) refl h (λ g. cells-fail n (a + 1) g)
    where
      go : (b : Bool) → le_z (store_word ws a) greatest ≡ b → le_z (store_word ws a) greatest && all_values ws (a + 1) n ≡ false
          → (all_values ws (a + 1) n ≡ false → read_cells (a + 1) n m ≡ fails undefined_error) → read_cells a (suc n) m ≡ fails undefined_error
      go false e h rest = rw (high-cell a e)
      go true e h rest =
          let C : Value (read_cell a m) (store_word ws a) = low-cell a e in
          let f : read_cells (suc a) n m ≡ fails undefined_error =
          ap (λ (x : ℕ). read_cells x n m) (omega arith) ∙ rest (sym (ap (λ (b : Bool). b && all_values ws (a + 1) n) e) ∙ h) in
          rw (C.gives, f)

  -- what the word of some cells says
  pub cells-value : (n a : ℕ) (x : ℤ) → x ≡ cells_word ws a n → lt_z greatest x ≡ false → AllRead ws m a n
  unfolding cells_word pick all_values
  cells-value zero a x e h = cells-read 0 a refl
  cells-value (suc n) a x e h = go (all_values ws a (suc n)) refl
    where
      go : (b : Bool) → all_values ws a (suc n) ≡ b → AllRead ws m a (suc n)
      go true f = cells-read (suc n) a f
      go false f = absurd (subst T (ap (λ (b : Bool). lt_z greatest (pick b (store_word ws a) undefined_word)) (sym f) ∙ ap (lt_z greatest) (sym e) ∙ h) tt)

  pub cells-fault : (n a : ℕ) (x : ℤ) → x ≡ cells_word ws a n → lt_z greatest x ≡ true → Faulty (read_cells a n m) x
  unfolding cells_word pick all_values fault_in InRange inside
  cells-fault zero a x e h = absurd (subst T (sym h ∙ ap (lt_z greatest) e) tt)
  cells-fault (suc n) a x e h = go (all_values ws a (suc n)) refl
    where
      go : (b : Bool) → all_values ws a (suc n) ≡ b → Faulty (read_cells a (suc n) m) x
      go true f =
          let z : x ≡ store_word ws a = e ∙ ap (λ (b : Bool). pick b (store_word ws a) undefined_word) f in
          absurd (subst T (sym h ∙ ap (lt_z greatest) z ∙ le_not (store_word ws a) greatest (and_left (le_z (store_word ws a) greatest) (all_values ws (a + 1) n) f)) tt)
      go false f =
          let z : x ≡ undefined_word = e ∙ ap (λ (b : Bool). pick b (store_word ws a) undefined_word) f in
          let y : fault_in x ≡ undefined_error = ap fault_in z in
          record { gives = cells-fail (suc n) a f ∙ ap (λ (k : ℤ). fails k) (sym y); ranged = subst InRange (sym y) refl }
