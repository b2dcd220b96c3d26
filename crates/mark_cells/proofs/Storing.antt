-- The ways through what stores into cells.
use mathlib.Core.Path.{◌≡◌, refl, sym, ap, subst, ◌∙◌}
use mathlib.Core.Bool.{Bool, true, false}
use mathlib.Core.List.{List}
use Prim.Native.Nat.{ℕ, zero, suc, ◌+◌, ◌-◌, ◌<◌, ◌≤◌}
use native.Mathlib.Omega.{arith}
use lib.IntN.{ℤ, pos}
use lib.ListN.{length, get_or, set, length-set}
use lib.Seq.{get_or-set_same, get_or-set_other}
use lib.Dec.{ltb}
use mir.Syntax.{w64}
use mir.Val.{SFits}
use mir.Facts.{to_z-of_z}
use borrow.Author.Rules.{sfits_of}
use borrow.Author.Tests.{lt-ltb, le-ltb, ltb-true, le-leb, lt-leb}
use mathlib.Core.Logic.{◌⊎◌, inl, inr}
use Rattle.leaf_integers.proofs.Order.{le-or-lt}
use Rattle.leaf_integers.proofs.Machine.{wire}
use Rattle.law.specs.Base.{pick}
use Rattle.law.specs.Machine.{store_cells}
use Rattle.code_calc.specs.Words.{undefined_word, store_word, store_words}
use Rattle.mark_cells.specs.Cells.{Puts, written, upwards, downwards, moves, made, Copies, Copying, Fills, Filling, Gives, Forgets}

-- ---- the word of a cell after a store
word_same : (ws : List ℤ) (a : ℕ) (z : ℤ) → length ws ≡ store_words → a < store_cells → store_word (set ws a z) a ≡ z
unfolding store_word pick
word_same ws a z l h = rw (lt-ltb a store_cells h) (get_or-set_same ws a z (pos 0) (omega (arith, l)))

word-other : (ws : List ℤ) (a i : ℕ) (z : ℤ) → ((i ≡ a) → ⊥) → store_word (set ws a z) i ≡ store_word ws i
unfolding store_word
word-other ws a i z h = ap (λ (x : ℤ). pick (ltb i store_cells) x undefined_word) (get_or-set_other ws a i z (pos 0) h)

-- ---- `put`
module _ (ws : List ℤ) (a : ℕ) (z : ℤ) where
  puts-set : (y : ℤ) → y ≡ z → a < store_cells → Puts ws a z (set ws a y)
  unfolding written pick
  puts-set y e g = record { is = rw (lt-ltb a store_cells g, e) }

  pub put-set : SFits w64 z → a < store_cells → Puts ws a z (set ws a (wire z))
  put-set f g = puts-set (wire z) (to_z-of_z f) g

  pub put-past : store_cells ≤ a → Puts ws a z ws
  unfolding written pick
  put-past h = record { is = rw (le-ltb a store_cells h) }

pub ruleset put_laws = (put-set, put-past, sfits_of)

-- what a write leaves
module _ {ws : List ℤ} {a : ℕ} {z : ℤ} {ws' : List ℤ} (P : Puts ws a z ws') where
  pub put-at : length ws ≡ store_words → a < store_cells → store_word ws' a ≡ z
  unfolding written pick
  put-at l h = ap (λ (us : List ℤ). store_word us a) P.is ∙ ap (λ (b : Bool). store_word (pick b (set ws a z) ws) a) (lt-ltb a store_cells h) ∙ word_same ws a z l h

  pub put_other : (i : ℕ) → ((i ≡ a) → ⊥) → store_word ws' i ≡ store_word ws i
  unfolding written pick
  put_other i h = ap (λ (us : List ℤ). store_word us i) P.is ∙ go (ltb a store_cells)
    where
      go : (b : Bool) → store_word (pick b (set ws a z) ws) i ≡ store_word ws i
      go true = word-other ws a i z h
      go false = refl

  pub put-long : length ws' ≡ length ws
  unfolding written pick
  put-long = ap (λ (us : List ℤ). length us) P.is ∙ go (ltb a store_cells)
    where
      go : (b : Bool) → length (pick b (set ws a z) ws) ≡ length ws
      go true = length-set ws a z
      go false = refl

  pub put-beside : (i : ℕ) → store_cells ≤ i → get_or ws' i (pos 0) ≡ get_or ws i (pos 0)
  unfolding written pick
  put-beside i h = ap (λ (us : List ℤ). get_or us i (pos 0)) P.is ∙ go (ltb a store_cells) refl
    where
      go : (b : Bool) → ltb a store_cells ≡ b → get_or (pick b (set ws a z) ws) i (pos 0) ≡ get_or ws i (pos 0)
      go true e = get_or-set_other ws a i z (pos 0) (λ q. absurd (omega (arith, q, h, ltb-true a store_cells e)))
      go false e = refl

-- ---- `copy_one`: the word is the callee's
pub one-put : (ws : List ℤ) (s a : ℕ) (z : ℤ) (ws' : List ℤ) → z ≡ store_word ws s → SFits w64 z → Puts ws a (wire z) ws' → Puts ws a (store_word ws s) ws'
one-put ws s a z ws' e f P = subst (λ (y : ℤ). Puts ws a y ws') (to_z-of_z f ∙ e) P

pub ruleset one_laws = (one-put, sfits_of)

-- ---- the cells after the writes of a copy
none-copied : (ws : List ℤ) (s a i : ℕ) → Copies ws s a i i ws
none-copied ws s a i =
    record { here = λ j h g m. absurd (omega arith); below = λ i h. refl; above = λ i h. refl; long = refl; beside = λ i h. refl }

module _ (ws : List ℤ) (s a i : ℕ) (us vs : List ℤ) (P : Puts us (a + i) (store_word us (s + i)) vs) where
  -- the cell that was stored
  stored_here : length ws ≡ store_words → length us ≡ length ws → (j : ℕ) → j ≡ i → a + j < store_cells → store_word us (s + i) ≡ store_word ws (s + i) → store_word vs (a + j) ≡ store_word ws (s + j)
  stored_here l k j e o g =
      subst (λ (x : ℕ). store_word vs (a + x) ≡ store_word ws (s + x)) (sym e) (put-at P (k ∙ l) (omega (arith, e, o)) ∙ g)

  other-here : (j : ℕ) → ((j ≡ i) → ⊥) → store_word vs (a + j) ≡ store_word us (a + j)
  other-here j h = put_other P (a + j) (λ e. h (omega (arith, e)))

  up_more : length ws ≡ store_words → a ≤ s → Copies ws s a 0 i us → Copies ws s a 0 (i + 1) vs
  up_more l h C = record {
    here = λ j g k o. here j (le-or-lt i j) k o;
    below = λ j g. put_other P j (λ e. absurd (omega (arith, e, g))) ∙ C.below j g;
    above = λ j g. put_other P j (λ e. absurd (omega (arith, e, g))) ∙ C.above j (omega (arith, g));
    long = put-long P ∙ C.long;
    beside = λ j g. put-beside P j g ∙ C.beside j g;
  }
    where
      here : (j : ℕ) → (i ≤ j) ⊎ (j < i) → j < i + 1 → a + j < store_cells → store_word vs (a + j) ≡ store_word ws (s + j)
      here j (inr q) g o = other-here j (λ f. absurd (omega (arith, f, q))) ∙ C.here j (omega arith) q o
      here j (inl q) g o = stored_here l C.long j (omega (arith, q, g)) o (C.above (s + i) (omega (arith, h)))

  down-more : (k : ℕ) → i < k → length ws ≡ store_words → s < a → Copies ws s a (i + 1) k us → Copies ws s a i k vs
  down-more k b l h C = record {
    here = λ j g f o. here j (le-or-lt j i) g f o;
    below = λ j g. put_other P j (λ e. absurd (omega (arith, e, g))) ∙ C.below j (omega (arith, g));
    above = λ j g. put_other P j (λ e. absurd (omega (arith, e, g, b))) ∙ C.above j g;
    long = put-long P ∙ C.long;
    beside = λ j g. put-beside P j g ∙ C.beside j g;
  }
    where
      here : (j : ℕ) → (j ≤ i) ⊎ (i < j) → i ≤ j → j < k → a + j < store_cells → store_word vs (a + j) ≡ store_word ws (s + j)
      here j (inr q) g f o = other-here j (λ f. absurd (omega (arith, f, q))) ∙ C.here j (omega (arith, q)) f o
      here j (inl q) g f o = stored_here l C.long j (omega (arith, q, g)) o (C.below (s + i) (omega (arith, h)))

-- the last write upwards
moved_as : (us : List ℤ) (s a i j : ℕ) → s ≡ i → a ≡ j → written us a (store_word us s) ≡ written us j (store_word us i)
moved_as us s a i j d e = rw (d, e)

up-last : (k s a : ℕ) (ws : List ℤ) → made (upwards s a (suc k)) ws ≡ written (made (upwards s a k) ws) (a + k) (store_word (made (upwards s a k) ws) (s + k))
unfolding upwards made
up-last zero s a ws = moved_as ws s a (s + 0) (a + 0) (omega arith) (omega arith)
up-last (suc k) s a ws =
    up-last k (suc s) (suc a) (written ws a (store_word ws s)) ∙ moved_as (made (upwards (suc s) (suc a) k) (written ws a (store_word ws s))) (suc s + k) (suc a + k) (s + suc k) (a + suc k) (omega arith) (omega arith)

module _ (ws : List ℤ) (s a k : ℕ) (l : length ws ≡ store_words) where
  up-copies : (i : ℕ) → a ≤ s → Copies ws s a 0 i (made (upwards s a i) ws)
  unfolding upwards made
  up-copies zero h = none-copied ws s a 0
  up-copies (suc i) h =
      let us = made (upwards s a i) ws in
      let e : i + 1 ≡ suc i = omega arith in
      subst (λ (vs : List ℤ). Copies ws s a 0 (suc i) vs) (sym (up-last i s a ws))
      (subst (λ (j : ℕ). Copies ws s a 0 j (written us (a + i) (store_word us (s + i)))) e
      (up_more ws s a i us (written us (a + i) (store_word us (s + i))) (record { is = refl }) l h (up-copies i h)))

  down-copies : (i : ℕ) (us : List ℤ) → i ≤ k → s < a → Copies ws s a i k us → Copies ws s a 0 k (made (downwards s a i) us)
  unfolding downwards made
  down-copies zero us g h C = C
  down-copies (suc i) us g h C =
      let e : suc i ≡ i + 1 = omega arith in
      let vs = written us (a + i) (store_word us (s + i)) in
      down-copies i vs (omega arith) h (down-more ws s a i us vs (record { is = refl }) k (omega arith) l h (subst (λ (j : ℕ). Copies ws s a j k us) e C))

-- ---- `copy_up`, `copy_down`: after the writes before i, or from i on, the others are left
pub record Onward (ws : List ℤ) (s a k i : ℕ) (us : List ℤ) : Type 0 where
  pub rest : made (upwards (s + i) (a + i) (k - i)) us ≡ made (upwards s a k) ws

pub record Back (ws : List ℤ) (s a k i : ℕ) (us : List ℤ) : Type 0 where
  pub rest : made (downwards s a i) us ≡ made (downwards s a k) ws

module _ (ws : List ℤ) (s a k : ℕ) where
  pub onward-start : Onward ws s a k 0 ws
  onward-start =
      let d : s + 0 ≡ s = omega arith in
      let e : a + 0 ≡ a = omega arith in
      let g : k - 0 ≡ k = omega arith in
      record { rest = rw (d, e, g) }

  pub back_start : Back ws s a k k ws
  back_start = record { rest = refl }

  module _ (i : ℕ) (us : List ℤ) where
    pub onward-next : (vs : List ℤ) → Onward ws s a k i us → i < k → Puts us (a + i) (store_word us (s + i)) vs → Onward ws s a k (i + 1) vs
    unfolding upwards made
    onward-next vs O h P =
        let g : k - i ≡ suc (k - (i + 1)) = omega arith in
        let c : suc (s + i) ≡ s + (i + 1) = omega arith in
        let d : suc (a + i) ≡ a + (i + 1) = omega arith in
        record { rest = rw (P.is, ← c, ← d) (rw g at O.rest) }

    pub onward-end : Onward ws s a k i us → k ≤ i → us ≡ made (upwards s a k) ws
    unfolding upwards made
    onward-end O h = let e : k - i ≡ 0 = omega arith in rw e at O.rest

    pub back-next : (vs : List ℤ) → Back ws s a k i us → 0 < i → Puts us (a + (i - 1)) (store_word us (s + (i - 1))) vs → Back ws s a k (i - 1) vs
    unfolding downwards made
    back-next vs B h P =
        let g : i ≡ suc (i - 1) = omega arith in
        let e : made (downwards s a (suc (i - 1))) us ≡ made (downwards s a k) ws = subst (λ (j : ℕ). made (downwards s a j) us ≡ made (downwards s a k) ws) g B.rest in
        record { rest = ap (made (downwards s a (i - 1))) P.is ∙ e }

    pub back_end : Back ws s a k i us → i ≤ 0 → us ≡ made (downwards s a k) ws
    unfolding downwards made
    back_end B h =
        let g : i ≡ 0 = omega arith in
        subst (λ (j : ℕ). made (downwards s a j) us ≡ made (downwards s a k) ws) g B.rest

  -- ---- `copy`
  pub copy-up : (us : List ℤ) → us ≡ made (upwards s a k) ws → a ≤ s → Copying ws s a k us
  unfolding moves pick
  copy-up us e h = record {
    writes = e ∙ rw (le-leb a s h);
    leaves = λ l. subst (λ (vs : List ℤ). Copies ws s a 0 k vs) (sym e) (up-copies ws s a k l k h);
  }

  pub copy-down : (us : List ℤ) → us ≡ made (downwards s a k) ws → s < a → Copying ws s a k us
  unfolding moves pick
  copy-down us e h = record {
    writes = e ∙ rw (lt-leb a s h);
    leaves = λ l. subst (λ (vs : List ℤ). Copies ws s a 0 k vs) (sym e) (down-copies ws s a k l k ws (omega arith) h (none-copied ws s a k));
  }

pub ruleset copy_laws = (copy-up, copy-down)

-- ---- `give`, `forget`
module _ (ws : List ℤ) (a : ℕ) (f : ℕ → ℤ) where
  pub fill_start : Filling ws a f 0 ws
  fill_start = record { says = λ l. record { here = λ j h g. absurd (omega arith); below = λ i h. refl; above = λ i h. refl; long = refl; beside = λ i h. refl } }

  fill_more : (i : ℕ) (us vs : List ℤ) (z : ℤ) → Puts us (a + i) z vs → z ≡ f i → length ws ≡ store_words → Fills ws a f i us → Fills ws a f (i + 1) vs
  fill_more i us vs z P e l C = record {
    here = λ j g o. here j (le-or-lt i j) g o;
    below = λ j g. put_other P j (λ e. absurd (omega (arith, e, g))) ∙ C.below j g;
    above = λ j g. put_other P j (λ e. absurd (omega (arith, e, g))) ∙ C.above j (omega (arith, g));
    long = put-long P ∙ C.long;
    beside = λ j g. put-beside P j g ∙ C.beside j g;
  }
    where
      here : (j : ℕ) → (i ≤ j) ⊎ (j < i) → j < i + 1 → a + j < store_cells → store_word vs (a + j) ≡ f j
      here j (inr q) g o = put_other P (a + j) (λ e. absurd (omega (arith, e, q))) ∙ C.here j q o
      here j (inl q) g o =
          subst (λ (x : ℕ). store_word vs (a + x) ≡ f x) (omega (arith, q, g)) (put-at P (C.long ∙ l) (omega (arith, q, g, o)) ∙ e)

  fill-next : (i : ℕ) (us vs : List ℤ) (z : ℤ) → Filling ws a f i us → Puts us (a + i) z vs → z ≡ f i → Filling ws a f (i + 1) vs
  fill-next i us vs z C P e = record { says = λ l. fill_more i us vs z P e l (C.says l) }

  pub fill_end : (i k : ℕ) (us : List ℤ) → Filling ws a f i us → i ≤ k → k ≤ i → Filling ws a f k us
  fill_end i k us C h g = subst (λ (x : ℕ). Filling ws a f x us) (omega arith) C

-- the next cell
pub give-next : (ws : List ℤ) (a : ℕ) (zs : List ℤ) (i : ℕ) (us vs : List ℤ) (z : ℤ) → Gives ws a i zs us → z ≡ get_or zs i (pos 0) → SFits w64 z → Puts us (a + i) (wire z) vs → Gives ws a (i + 1) zs vs
give-next ws a zs i us vs z C e f P = fill-next ws a (λ j. get_or zs j (pos 0)) i us vs (wire z) C P (to_z-of_z f ∙ e)

pub forget-next : (ws : List ℤ) (a i : ℕ) (us vs : List ℤ) → Forgets ws a i us → Puts us (a + i) undefined_word vs → Forgets ws a (i + 1) vs
forget-next ws a i us vs C P = fill-next ws a (λ j. undefined_word) i us vs undefined_word C P refl
