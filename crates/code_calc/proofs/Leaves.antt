-- The ways through what reads cells and makes words.
use Rattle.std.proofs.Common.{◌≡◌, ℕ, zero, suc, ◌+◌, ◌-◌, ◌%◌, ◌^◌, ◌<◌, ◌≤◌, min, Bool, true, false, cond, ◌&&◌, leb, List, get_or, ℤ, pos, negsuc, ◌-ℤ◌, nat_abs, sym, refl, ap, ◌∙◌, true≢false, arith, to_z-of_z, w32, w64, Fits, SFits, to_z, ltb-false, ltb-true, le-ltb, lt-ltb, ne_eqb, le-leb, leb-false, leb-true}
use borrow.Author.Rules.{sfits_of}
use lib.Signed.{le_z, lt_z}
use Rattle.leaf_integers.specs.Integers.{least, most, inside}
use Rattle.leaf_integers.proofs.Order.{not-lt, lt_not}
use Rattle.leaf_integers.proofs.Ranges.{inside_both}
use mir.Facts.{to_z_pos}
use Rattle.leaf_integers.proofs.Machine.{wire}
use Rattle.leaf_words.specs.Numbers.{signed}
use Rattle.leaf_words.proofs.DecimalHex.{below}
use Rattle.law.specs.Calculate.{truth, nat_of}
use Rattle.law.specs.Base.{pick}
use Rattle.law.specs.Machine.{store_cells}
use Rattle.code_calc.specs.Words.{greatest, latest_at, store_word, latest_in, undefined_word, all_values, cells_word, cells_at}

-- ---- `cell`, `latest`
pub cell-here : (l : List ℤ) (a : ℕ) → a < store_cells → SFits w64 (get_or l a (pos 0)) → wire (get_or l a (pos 0)) ≡ store_word l a
unfolding store_word pick
cell-here l a h f = to_z-of_z f ∙ rw (lt-ltb a store_cells h)

pub cell-past : (l : List ℤ) (a : ℕ) → store_cells ≤ a → undefined_word ≡ store_word l a
unfolding store_word pick
cell-past l a h = rw (le-ltb a store_cells h)

pub latest-here : (l : List ℤ) → SFits w64 (get_or l latest_at (pos 0)) → wire (get_or l latest_at (pos 0)) ≡ latest_in l
unfolding latest_in
latest-here l f = to_z-of_z f

-- ---- `signed_of`, `truth_of`
module _ (n k : ℕ) (f : Fits w32 n) (e : k ≡ (n + 2147483648) % 2 ^ 32) where
  turned-low : n ≤ 2147483647 → k ≡ n + 2147483648
  turned-low l = omega (arith, e)

  turned-high : 2147483647 < n → k ≡ n - 2147483648
  turned-high h = omega (arith, e, f.fits)

  turned-small : k ≤ 4294967295
  turned-small = omega (arith, e)

  signed-turned : pos k -ℤ pos 2147483648 ≡ signed n
  unfolding signed
  signed-turned = go (leb n 2147483647) refl
    where
      go : (t : Bool) → leb n 2147483647 ≡ t → pos k -ℤ pos 2147483648 ≡ cond t (pos n) (pos n -ℤ pos 4294967296)
      go true i = let l = leb-true n 2147483647 i in rw (turned-low l, le-ltb (n + 2147483648) 2147483648 (omega arith)) (ap pos (omega arith))
      go false i =
          let h = leb-false n 2147483647 i in
          rw (turned-high h, lt-ltb (n - 2147483648) 2147483648 (omega (arith, f.fits)), below n (omega (arith, f.fits)) h) (ap negsuc (omega (arith, f.fits)))

  signed-fits : SFits w64 (signed n)
  unfolding signed
  signed-fits = go (leb n 2147483647) refl
    where
      go : (t : Bool) → leb n 2147483647 ≡ t → SFits w64 (cond t (pos n) (pos n -ℤ pos 4294967296))
      go true i = record { sfits = omega (arith, leb-true n 2147483647 i) }
      go false i = rw (below n (omega (arith, f.fits)) (leb-false n 2147483647 i)) (record { sfits = omega (arith, leb-false n 2147483647 i) })

  turned-is : to_z w64 k -ℤ pos 2147483648 ≡ signed n
  turned-is = let i : k < 2 ^ 63 = omega (arith, turned-small) in rw (to_z_pos w64 {n = k} i) signed-turned

  pub signed-room : SFits w64 (to_z w64 k -ℤ pos 2147483648)
  signed-room = rw turned-is signed-fits

  pub signed_is : wire (to_z w64 k -ℤ pos 2147483648) ≡ signed n
  signed_is = to_z-of_z signed-room ∙ turned-is

pub ruleset signed-laws = (signed-room, signed_is)

pub small_signed : (n : ℕ) → Fits w32 n → inside least most (signed n) ≡ true
unfolding signed
small_signed n f = go (leb n 2147483647) refl
  where
    go : (t : Bool) → leb n 2147483647 ≡ t → inside least most (cond t (pos n) (pos n -ℤ pos 4294967296)) ≡ true
    go true e = inside_both least most (pos n) refl e
    go false e =
        rw (below n (omega (arith, f.fits)) (omega (arith, leb-false n 2147483647 e)))
        (inside_both least most (negsuc (4294967295 - n)) (le-leb (4294967295 - n) 2147483647 (omega (arith, leb-false n 2147483647 e))) refl)

pub truth-yes : (b : Bool) → b ≡ true → pos 1 ≡ truth b
unfolding truth
truth-yes b e = rw e

pub truth-not : (b : Bool) → b ≡ false → pos 0 ≡ truth b
unfolding truth
truth-not b e = rw e

-- ---- `natural`, `reach`, `capped`
negative : (z : ℤ) → lt_z z (pos 0) ≡ true → 0 ≡ nat_of z
negative (pos n) h = absurd (true≢false (sym h ∙ le-ltb n 0 (omega arith)))
negative (negsuc n) h = refl

natural-abs : (z : ℤ) → lt_z z (pos 0) ≡ false → nat_abs z ≡ nat_of z
natural-abs (pos n) h = refl
natural-abs (negsuc n) h = absurd (true≢false h)

module _ (z : ℤ) (f : SFits w64 z) where
  pub natural-none : lt_z (wire z) (pos 0) ≡ true → 0 ≡ nat_of z
  natural-none h = negative z (rw (to_z-of_z f) at h)

  pub natural-is : lt_z (wire z) (pos 0) ≡ false → nat_abs (wire z) ≡ nat_of z
  natural-is h = rw (to_z-of_z f) (natural-abs z (rw (to_z-of_z f) at h))

pub ruleset natural_laws = (natural-none, natural-is)

past-cap : (z : ℤ) → lt_z (pos 4294967295) z ≡ true → 4294967295 ≡ min (nat_of z) 4294967295
past-cap (pos n) h = let k : 4294967295 < n = ltb-true 4294967295 n h in omega arith
past-cap (negsuc n) h = absurd (true≢false (sym h))

below-cap : (z : ℤ) → lt_z (pos 4294967295) z ≡ false → nat_of z ≡ min (nat_of z) 4294967295
below-cap (pos n) h = let k : n ≤ 4294967295 = ltb-false 4294967295 n h in omega arith
below-cap (negsuc n) h = omega arith

module _ (z : ℤ) (f : SFits w64 z) where
  pub reach-none : lt_z (wire z) (pos 0) ≡ true → 0 ≡ min (nat_of z) 4294967295
  reach-none h = let k = natural-none z f h in omega (arith, k)

  pub reach-past : lt_z (pos 4294967295) (wire z) ≡ true → 4294967295 ≡ min (nat_of z) 4294967295
  reach-past h = past-cap z (rw (to_z-of_z f) at h)

  pub reach-is : lt_z (wire z) (pos 0) ≡ false → lt_z (pos 4294967295) (wire z) ≡ false → nat_abs (wire z) ≡ min (nat_of z) 4294967295
  reach-is h g = natural-is z f h ∙ below-cap z (rw (to_z-of_z f) at g)

pub ruleset reach-laws = (reach-none, reach-past, reach-is, sfits_of)

pub capped-past : (a : ℕ) → 4294967295 < a → pos 4294967295 ≡ pos (min a 4294967295)
capped-past a h = ap pos (omega arith)

pub capped-here : (a : ℕ) → a ≤ 4294967295 → to_z w64 a ≡ pos (min a 4294967295)
capped-here a h = to_z_pos w64 {n = a} (omega arith) ∙ ap pos (omega arith)

-- ---- `cells`, `cells_at`

-- after the cells before i: those from there on are left
pub record Left (ws : List ℤ) (a n i : ℕ) : Type 0 where
  pub within : i ≤ n
  pub rest : all_values ws a n ≡ all_values ws (a + i) (n - i)

cells-fault : (ws : List ℤ) (a n : ℕ) → 1 ≤ n → all_values ws a n ≡ false → cells_word ws a n ≡ undefined_word
unfolding cells_word pick
cells-fault ws a zero h e = absurd (omega arith)
cells-fault ws a (suc n) h e = rw e

cells_are : (ws : List ℤ) (a n : ℕ) → 1 ≤ n → all_values ws a n ≡ true → cells_word ws a n ≡ store_word ws a
unfolding cells_word pick
cells_are ws a zero h e = absurd (omega arith)
cells_are ws a (suc n) h e = rw e

none_left : (ws : List ℤ) (a k : ℕ) → k ≡ 0 → all_values ws a k ≡ true
unfolding all_values
none_left ws a k e = rw e

module _ (ws : List ℤ) (a n : ℕ) where
  pub left-start : Left ws a n 0
  left-start = record { within = omega arith; rest = ap (λ (q : ℕ). all_values ws q n) (omega arith) ∙ ap (all_values ws (a + 0)) (omega arith) }

  seen : (k i : ℕ) → k ≡ suc (n - (i + 1)) → all_values ws (a + i) k ≡ (le_z (store_word ws (a + i)) greatest && all_values ws (a + i + 1) (n - (i + 1)))
  unfolding all_values
  seen k i e = rw e

  module _ (i : ℕ) (h : Left ws a n i) (k : i < n) (w : ℤ) (e : w ≡ store_word ws (a + i)) (f : SFits w64 w) where
    after : (t : Bool) → le_z w greatest ≡ t → all_values ws a n ≡ (t && all_values ws (a + i + 1) (n - (i + 1)))
    after t g =
        h.rest ∙ seen (n - i) i (omega arith)
        ∙ ap (λ (t : Bool). t && all_values ws (a + i + 1) (n - (i + 1))) (ap (λ (q : ℤ). le_z q greatest) (sym e) ∙ g)

    pub left_step : lt_z greatest (wire w) ≡ false → Left ws a n (i + 1)
    left_step g =
        record {
          within = omega arith;
          rest = after true (not-lt greatest w (rw (to_z-of_z f) at g)) ∙ ap (λ (q : ℕ). all_values ws q (n - (i + 1))) (omega arith);
        }

    pub left-fault : lt_z greatest (wire w) ≡ true → undefined_word ≡ cells_word ws a n
    left-fault g = sym (cells-fault ws a n (omega arith) (after false (lt_not greatest w (rw (to_z-of_z f) at g))))

  pub left_end : (i : ℕ) (z : ℤ) → ((n ≡ 0) → ⊥) → Left ws a n i → n ≤ i → z ≡ store_word ws a → SFits w64 z → wire z ≡ cells_word ws a n
  left_end i z q h k e f = to_z-of_z f ∙ e ∙ sym (cells_are ws a n (omega arith) (h.rest ∙ none_left ws (a + i) (n - i) (omega arith)))

pub cells-none : (ws : List ℤ) (a n : ℕ) → n ≡ 0 → pos 0 ≡ cells_word ws a n
unfolding cells_word
cells-none ws a n e = rw e

pub ruleset cells_laws = (left-start, left_step, cells-none, left-fault, left_end, sfits_of)

module _ (ws : List ℤ) (w : ℤ) (n : ℕ) (f : SFits w64 w) where
  pub at-fault : lt_z greatest (wire w) ≡ true → wire w ≡ cells_at ws w n
  unfolding cells_at pick
  at-fault h = to_z-of_z f ∙ rw (rw (to_z-of_z f) at h)

  module _ (h : lt_z greatest (wire w) ≡ false) (a : ℕ) (e : a ≡ min (nat_of (wire w)) 4294967295) where
    pub at-fits : Fits w32 a
    at-fits = record { fits = omega (arith, e) }

    pub at_one : (z : ℤ) → n ≡ 1 → z ≡ store_word ws a → SFits w64 z → wire z ≡ cells_at ws w n
    unfolding cells_at pick
    at_one z o g k = to_z-of_z k ∙ g ∙ rw (o, rw (to_z-of_z f) at h, e, to_z-of_z f)

    pub at_more : (z : ℤ) → ((n ≡ 1) → ⊥) → z ≡ cells_word ws a n → SFits w64 z → wire z ≡ cells_at ws w n
    unfolding cells_at pick
    at_more z o g k = to_z-of_z k ∙ g ∙ rw (rw (to_z-of_z f) at h, ne_eqb n 1 o, e, to_z-of_z f)

pub ruleset at-laws = (at-fault, at_one, at_more, sfits_of)

pub ruleset truth_laws = (truth-yes, truth-not)

pub ruleset cell_laws = (cell-here, cell-past)
