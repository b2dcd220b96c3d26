-- The ways through the places of elements and fields.
use Rattle.std.proofs.Common.{◌≡◌, ℕ, zero, suc, ◌+◌, ◌-◌, ◌*◌, ◌<◌, ◌≤◌, min, Bool, true, false, cond, ltb, ℤ, pos, negsuc, ◌-ℤ◌, sym, refl, ap, ◌∙◌, mul-le-mul, arith, to_z-of_z, w32, w64, Fits, SFits, ltb-true, leb-true}
use borrow.Author.Rules.{sfits_of}
use lib.IntN.{sub_ℕ, -ℤ-+ℤ_cancel}
use lib.Signed.{mag, non_neg, lt_z}
use Rattle.leaf_integers.proofs.Machine.{wire, fits-mag}
use Rattle.leaf_integers.proofs.Order.{le_z-diff, le_z-trans}
use Rattle.leaf_integers.proofs.Ranges.{inside_is, inside_both, inside-mag}
use Rattle.leaf_integers.specs.Integers.{inside, least, most}
use Rattle.leaf_words.specs.Numbers.{signed}
use Rattle.law.specs.Base.{pick}
use Rattle.law.specs.Calculate.{is, fails, nat_of, tested}
use Rattle.code_calc.specs.Words.{greatest, fault_base, range_word, word_of, cell_of, place_word, distance_word, element_word, shifted_word}
use Rattle.code_calc.proofs.Leaves.{small_signed}
use Rattle.code_calc.proofs.Combining.{fault-again, value-again}

-- ---- a difference of two integers
sub-mag : (a b n : ℕ) → a ≤ n → b ≤ suc n → mag (sub_ℕ a b) ≤ n
sub-mag a b n h k = of (ltb a b) refl
  where
    of : (t : Bool) → ltb a b ≡ t → mag (cond t (negsuc (b - suc a)) (pos (a - b))) ≤ n
    of true e = omega (arith, ltb-true a b e)
    of false e = omega arith

span : (x y : ℤ) → mag x < 2147483648 → mag y < 2147483648 → mag (x -ℤ y) ≤ 4294967295
span (pos a) (pos zero) h k = omega arith
span (pos a) (pos (suc b)) h k = sub-mag a (suc b) 4294967295 (omega arith) (omega arith)
span (pos a) (negsuc b) h k = omega arith
span (negsuc a) (pos zero) h k = sub-mag 0 (suc a) 4294967295 (omega arith) (omega arith)
span (negsuc a) (pos (suc b)) h k = omega arith
span (negsuc a) (negsuc b) h k = sub-mag (suc b) (suc a) 4294967295 (omega arith) (omega arith)

narrow : (z : ℤ) → inside least most z ≡ true → mag z < 2147483648
narrow z h = omega (arith, leb-true (mag z) 2147483647 (sym (inside-mag 2147483647 z) ∙ h))

module _ (lo hi x : ℤ) (p : inside least most lo ≡ true) (q : inside least most hi ≡ true) (h : inside lo hi x ≡ true) where
  index-narrow : inside least most x ≡ true
  index-narrow =
      inside_both least most x
      (le_z-trans least lo x (inside_is least most lo p).0 (inside_is lo hi x h).0)
      (le_z-trans x hi most (inside_is lo hi x h).1 (inside_is least most hi q).1)

  pub index-span : mag (x -ℤ lo) ≤ 4294967295
  index-span = span x lo (narrow x index-narrow) (narrow lo p)

  pub index-up : non_neg (x -ℤ lo) ≡ true
  index-up = sym (le_z-diff lo x) ∙ (inside_is lo hi x h).0

-- ---- `distance`
module _ (low high : ℕ) (fl : Fits w32 low) (fh : Fits w32 high) (x : ℤ) (fx : SFits w64 x) where
  pub distance-fault : lt_z greatest (wire x) ≡ true → wire x ≡ distance_word (signed low) (signed high) x
  unfolding distance_word word_of
  distance-fault h = to_z-of_z fx ∙ rw (fault-again x (rw (to_z-of_z fx) at h)) (sym (-ℤ-+ℤ_cancel x fault_base))

  module _ (lo hi : ℤ) (e : lo ≡ signed low) (f : hi ≡ signed high) (sl : SFits w64 lo) (sh : SFits w64 hi) (b : Bool) (g : b ≡ inside (wire lo) (wire hi) (wire x)) where
    was : (t : Bool) → b ≡ t → inside (signed low) (signed high) x ≡ t
    was t k = rw (← e, ← f) (sym (rw (to_z-of_z sl, to_z-of_z sh, to_z-of_z fx) at g) ∙ k)

    pub distance-fits : b ≡ true → SFits w64 (wire x -ℤ wire lo)
    distance-fits k =
        rw (to_z-of_z fx, to_z-of_z sl, e)
        (fits-mag (x -ℤ signed low) (omega (arith, index-span (signed low) (signed high) x (small_signed low fl) (small_signed high fh) (was true k))))

    pub distance-in : lt_z greatest (wire x) ≡ false → b ≡ true → wire (wire x -ℤ wire lo) ≡ distance_word (signed low) (signed high) x
    unfolding distance_word word_of tested pick
    distance-in h k = to_z-of_z (distance-fits k) ∙ rw (value-again x (rw (to_z-of_z fx) at h)) (rw (was true k) (rw (to_z-of_z fx, to_z-of_z sl, e)))

    pub distance-out : lt_z greatest (wire x) ≡ false → b ≡ false → range_word ≡ distance_word (signed low) (signed high) x
    unfolding distance_word word_of tested pick
    distance-out h k = rw (value-again x (rw (to_z-of_z fx) at h)) (rw (was false k))

pub ruleset distance-laws = (distance-fault, distance-fits, distance-in, distance-out, sfits_of)

-- ---- `element`, `shifted`
cell-fault : (w : ℤ) → lt_z greatest w ≡ true → cell_of w ≡ fails (w -ℤ fault_base)
unfolding cell_of pick
cell-fault w h = rw h

cell-value : (w : ℤ) → lt_z greatest w ≡ false → cell_of w ≡ is (min (nat_of w) 4294967295)
unfolding cell_of pick
cell-value w h = rw h

module _ (a : ℤ) (fa : SFits w64 a) where
  pub shifted-fault : (k : ℕ) → lt_z greatest (wire a) ≡ true → wire a ≡ shifted_word a k
  unfolding shifted_word place_word
  shifted-fault k h = to_z-of_z fa ∙ rw (cell-fault a (rw (to_z-of_z fa) at h)) (sym (-ℤ-+ℤ_cancel a fault_base))

  pub element-left : (d : ℤ) (n : ℕ) → lt_z greatest (wire a) ≡ true → wire a ≡ element_word a d n
  unfolding element_word place_word
  element-left d n h = to_z-of_z fa ∙ rw (cell-fault a (rw (to_z-of_z fa) at h)) (sym (-ℤ-+ℤ_cancel a fault_base))

  module _ (h : lt_z greatest (wire a) ≡ false) where
    module _ (p : ℕ) (e : p ≡ min (nat_of (wire a)) 4294967295) where
      pub shifted_fits : (k : ℕ) → Fits w32 k → Fits w64 (p + k)
      shifted_fits k f = record { fits = omega (arith, e, f.fits) }

      pub shifted-is : (k : ℕ) (z : ℤ) → z ≡ pos (min (p + k) 4294967295) → SFits w64 z → wire z ≡ shifted_word a k
      unfolding shifted_word place_word
      shifted-is k z g s = to_z-of_z s ∙ g ∙ rw (cell-value a (rw (to_z-of_z fa) at h), e, to_z-of_z fa)

    module _ (d : ℤ) (fd : SFits w64 d) (n : ℕ) where
      pub element-right : lt_z greatest (wire d) ≡ true → wire d ≡ element_word a d n
      unfolding element_word place_word
      element-right g = to_z-of_z fd ∙ rw (cell-value a (rw (to_z-of_z fa) at h), fault-again d (rw (to_z-of_z fd) at g)) (sym (-ℤ-+ℤ_cancel d fault_base))

      module _ (g : lt_z greatest (wire d) ≡ false) (k : ℕ) (f : k ≡ min (nat_of (wire d)) 4294967295) (fn : Fits w32 n) where
        product : k * n ≤ 4294967295 * 4294967295
        product = mul-le-mul {n₁ = k} {m₁ = n} {n₂ = 4294967295} {m₂ = 4294967295} (omega (arith, f)) (omega (arith, fn.fits))

        pub element-times : Fits w64 (k * n)
        element-times = record { fits = omega (arith, product) }

        module _ (p : ℕ) (e : p ≡ min (nat_of (wire a)) 4294967295) where
          pub element-plus : Fits w64 (p + k * n)
          element-plus = record { fits = omega (arith, product, e) }

          pub element-is : (z : ℤ) → z ≡ pos (min (p + k * n) 4294967295) → SFits w64 z → wire z ≡ element_word a d n
          unfolding element_word place_word
          element-is z r s = to_z-of_z s ∙ r ∙ rw (cell-value a (rw (to_z-of_z fa) at h), value-again d (rw (to_z-of_z fd) at g), e, f, to_z-of_z fa, to_z-of_z fd)

pub ruleset element-laws = (element-left, element-right, element-times, element-plus, element-is, shifted-fault, shifted_fits, shifted-is, sfits_of)

-- ---- `element_of`
module _ (low high : ℕ) (fl : Fits w32 low) (fh : Fits w32 high) (x : ℤ) (fx : SFits w64 x) (a : ℤ) (fa : SFits w64 a) (n : ℕ) where
  pub index-left : lt_z greatest (wire a) ≡ true → wire a ≡ element_word a (distance_word (signed low) (signed high) x) n
  index-left h = element-left a fa (distance_word (signed low) (signed high) x) n h

  module _ (h : lt_z greatest (wire a) ≡ false) where
    pub index-right : lt_z greatest (wire x) ≡ true → wire x ≡ element_word a (distance_word (signed low) (signed high) x) n
    index-right g =
        element-right a fa h x fx n g
        ∙ ap (λ (d : ℤ). element_word a d n) (sym (to_z-of_z fx) ∙ distance-fault low high fl fh x fx g)

    module _ (g : lt_z greatest (wire x) ≡ false) (lo hi : ℤ) (e : lo ≡ signed low) (f : hi ≡ signed high) (sl : SFits w64 lo) (sh : SFits w64 hi) (b : Bool) (i : b ≡ inside (wire lo) (wire hi) (wire x)) where
      pub index_in : (r : ℤ) → b ≡ true → r ≡ element_word (wire a) (wire (wire x -ℤ wire lo)) n → SFits w64 r → wire r ≡ element_word a (distance_word (signed low) (signed high) x) n
      index_in r k R fr =
          to_z-of_z fr ∙ R ∙ ap (λ (c : ℤ). element_word c (wire (wire x -ℤ wire lo)) n) (to_z-of_z fa)
          ∙ ap (λ (d : ℤ). element_word a d n) (distance-in low high fl fh x fx lo hi e f sl sh b i g k)

      pub index-out : b ≡ false → range_word ≡ element_word a (distance_word (signed low) (signed high) x) n
      index-out k =
          element-right a fa h range_word (fits-mag range_word (omega arith)) n refl
          ∙ ap (λ (d : ℤ). element_word a d n) (distance-out low high fl fh x fx lo hi e f sl sh b i g k)

pub ruleset index-laws = (index-left, index-right, distance-fits, index_in, index-out, sfits_of)
