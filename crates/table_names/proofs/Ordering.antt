-- Words put in order, and a value found by halving.
use mathlib.Core.Path.{◌≡◌, refl, sym, ap, ◌∙◌}
use mathlib.Core.Bool.{cond}
use mathlib.Core.List.{List, map}
use Prim.Native.Nat.{ℕ, suc, ◌+◌, ◌*◌, ◌-◌, ◌/◌, ◌%◌, ◌<◌, ◌≤◌}
use native.Mathlib.Nat.{mod-lt}
use native.Mathlib.Omega.{arith}
use borrow.Author.Tests.{lt-ltb, le-ltb, eq-eqb, eqb-false}
use mir.Syntax.{w32, w64}
use mir.Val.{Fits}
use lib.Dec.{ltb}
use lib.ListN.{length, get_or}
use Rattle.leaf_bytes.specs.Bytes.{small}
use Rattle.law.specs.Base.{Name}
use Rattle.law.specs.Trees.{word_at}
use Rattle.table_names.specs.Letters.{letter_of, byte_at, meets}
use Rattle.table_names.specs.Keys.{key_of}
use Rattle.table_names.specs.Order.{lettered, ordered}
use Rattle.table_names.specs.Chain.{name_at, key_at, first_value, order_at, ranked, middle, by_order, halved, value_in}
use Rattle.table_names.specs.declared.letters.Meeting.{Meeting}
use Rattle.table_names.specs.declared.letters.Meeting.TheVariants as meeting
use Rattle.std.specs.declared.cmp.Ordering.{Ordering}
use Rattle.std.specs.declared.cmp.Ordering.TheVariants as order
use Rattle.table_names.proofs.Spelled.{Letters, ended, going, letters}
use Rattle.table_names.proofs.Names.{Met, same_met, end-met, differ-met, met}

-- ---- `by_letters`

module _ (s : List ℕ) (p q a b x y : ℕ) (d : a ≡ byte_at s p) (e : x ≡ letter_of a) (f : b ≡ byte_at s q) (g : y ≡ letter_of b) where
  first-letter : x ≡ letter_of (byte_at s p)
  first-letter = e ∙ ap letter_of d

  second-letter : y ≡ letter_of (byte_at s q)
  second-letter = g ∙ ap letter_of f

  pub letters-before : x < y → order.Less ≡ lettered (letter_of (byte_at s p)) (letter_of (byte_at s q))
  unfolding lettered
  letters-before h = rw (lt-ltb (letter_of (byte_at s p)) (letter_of (byte_at s q)) (rw (← first-letter, ← second-letter) h)) refl

  pub letters-after : y ≤ x → order.Greater ≡ lettered (letter_of (byte_at s p)) (letter_of (byte_at s q))
  unfolding lettered
  letters-after h = rw (le-ltb (letter_of (byte_at s p)) (letter_of (byte_at s q)) (rw (← first-letter, ← second-letter) h)) refl

pub ruleset letters_laws = (letters-before, letters-after)

-- ---- `order_of`: what is left of the words, from p and q on, tells the order of those at a and b

pub record Ordered (s : List ℕ) (a b p q : ℕ) : Type 0 where
  pub same_left : ordered (map small (word_at s a)) (map small (word_at s b)) ≡ ordered (map small (word_at s p)) (map small (word_at s q))

pub order-start : (s : List ℕ) (a b : ℕ) → Ordered s a b a b
order-start s a b = record { same_left = refl }

module _ (s : List ℕ) (a b p q : ℕ) (C : Ordered s a b p q) (m : Meeting) (e : m ≡ meets (letter_of (byte_at s p)) (letter_of (byte_at s q))) where
  here : (k : Meeting) → m ≡ k → Met (letter_of (byte_at s p)) (letter_of (byte_at s q)) k
  here k f = rw (← f, e) (met (letter_of (byte_at s p)) (letter_of (byte_at s q)))

  pub order_differ : m ≡ meeting.Differ → (r : Ordering) → r ≡ lettered (letter_of (byte_at s p)) (letter_of (byte_at s q))
      → r ≡ ordered (map small (word_at s a)) (map small (word_at s b))
  unfolding ordered lettered
  order_differ f r i = i ∙ sym (C.same_left ∙ go (here meeting.Differ f) (letters s p) (letters s q))
    where
      go : Met (letter_of (byte_at s p)) (letter_of (byte_at s q)) meeting.Differ → Letters s p → Letters s q
          → ordered (map small (word_at s p)) (map small (word_at s q)) ≡ lettered (letter_of (byte_at s p)) (letter_of (byte_at s q))
      go (differ-met n) (ended z _) (ended w _) = absurd (eqb-false _ _ n (z ∙ sym w))
      go (differ-met n) (ended z i) (going _ g j) = rw (i, j, lt-ltb (letter_of (byte_at s p)) (letter_of (byte_at s q)) (omega (arith, z, g))) refl
      go (differ-met n) (going _ g i) (ended z j) = rw (i, j, le-ltb (letter_of (byte_at s p)) (letter_of (byte_at s q)) (omega (arith, z, g))) refl
      go (differ-met n) (going _ _ i) (going _ _ j) = rw (i, j, n) refl

  pub order_ended : m ≡ meeting.End → order.Equal ≡ ordered (map small (word_at s a)) (map small (word_at s b))
  unfolding ordered
  order_ended f = sym (C.same_left ∙ go (here meeting.End f) (letters s p) (letters s q))
    where
      go : Met (letter_of (byte_at s p)) (letter_of (byte_at s q)) meeting.End → Letters s p → Letters s q
          → ordered (map small (word_at s p)) (map small (word_at s q)) ≡ order.Equal
      go (end-met x y) (ended _ i) (ended _ j) = rw (i, j) refl
      go (end-met x y) (going _ n _) _ = absurd (n x)
      go (end-met x y) (ended _ _) (going _ n _) = absurd (n y)

  module _ (f : m ≡ meeting.Same) where
    both : (p < length s) × (q < length s)
        × (ordered (map small (word_at s p)) (map small (word_at s q)) ≡ ordered (map small (word_at s (p + 1))) (map small (word_at s (q + 1))))
    unfolding ordered
    both = go (here meeting.Same f) (letters s p) (letters s q)
      where
        go : Met (letter_of (byte_at s p)) (letter_of (byte_at s q)) meeting.Same → Letters s p → Letters s q
            → (p < length s) × (q < length s)
            × (ordered (map small (word_at s p)) (map small (word_at s q)) ≡ ordered (map small (word_at s (p + 1))) (map small (word_at s (q + 1))))
        go (same_met x n) (ended z _) _ = absurd (n z)
        go (same_met x n) (going _ _ _) (ended z _) = absurd (n (x ∙ z))
        go (same_met x n) (going h _ i) (going g _ j) = (h, g, rw (i, j, eq-eqb _ _ x) refl)

    pub order-left : Fits w64 (length s) → Fits w64 (p + 1)
    order-left g = record { fits = omega (arith, both.0, g.fits) }

    pub order-right : Fits w64 (length s) → Fits w64 (q + 1)
    order-right g = record { fits = omega (arith, both.1, g.fits) }

    pub order-falls : length s - (p + 1) < length s - p
    order-falls = omega (arith, both.0)

    pub order_on : Ordered s a b (p + 1) (q + 1)
    order_on = record { same_left = C.same_left ∙ both.2 }

pub ruleset order_laws = (order_differ, order_ended, order_on)

-- ---- `order_at`

module _ (s l : List ℕ) (p key : ℕ) (w : Name) (first : ℕ) (e : first ≡ get_or l p 0) where
  pub at_before : first / 32768 < key → key ≡ key_of w → order.Less ≡ order_at s l p w
  unfolding order_at key_at
  at_before h k = rw (lt-ltb (get_or l p 0 / 32768) (key_of w) (rw (← e, ← k) h)) refl

  module _ (h : key ≤ first / 32768) where
    pub at_after : key < first / 32768 → key ≡ key_of w → order.Greater ≡ order_at s l p w
    unfolding order_at key_at
    at_after g k = rw (le-ltb (get_or l p 0 / 32768) (key_of w) (rw (← e, ← k) h), lt-ltb (key_of w) (get_or l p 0 / 32768) (rw (← e, ← k) g)) refl

    pub at_same : first / 32768 ≤ key → (r : Ordering) → r ≡ ordered (map small (word_at s (first % 32768))) w → key ≡ key_of w → r ≡ order_at s l p w
    unfolding order_at key_at name_at
    at_same g r f k = f ∙ rw (le-ltb (get_or l p 0 / 32768) (key_of w) (rw (← e, ← k) h), le-ltb (key_of w) (get_or l p 0 / 32768) (rw (← e, ← k) g), e) refl

pub ruleset at_laws = (at_before, at_after, at_same)

-- ---- `first_value`, `rank_at`

pub first-is : (p : ℕ) → p % 32768 + 12 ≡ first_value p
unfolding first_value
first-is p = refl

pub rank_is : (l : List ℕ) (b j x : ℕ) → x ≡ get_or l (b + 4 * j + 1) 0 → x / 512 % 256 ≡ ranked l b j
unfolding ranked
rank_is l b j x e = rw e refl

-- ---- `middle_of`

pub middle_is : (low high d : ℕ) → d ≡ high - low → low + d / 2 ≡ middle low high
unfolding middle
middle_is low high d e = rw e refl

-- ---- `find_value`: so many halvings are left of what stands from low to high

pub record Halving (s l : List ℕ) (place n key : ℕ) (w : Name) (base low high left : ℕ) : Type 0 where
  pub base-is : base ≡ first_value place
  pub up : high ≤ n
  pub same_place : key ≡ key_of w → value_in s l place n w ≡ halved s l base n w left low high

module _ (s l : List ℕ) (place n key : ℕ) (w : Name) (base : ℕ) where
  pub halving-start : base ≡ first_value place → Halving s l place n key w base 0 n 9
  unfolding value_in
  halving-start e = record { base-is = e; up = omega arith; same_place = λ _. rw e refl }

  module _ (low high left : ℕ) (H : Halving s l place n key w base low high left) where
    pub halving-none : left ≤ 0 → key ≡ key_of w → 0 ≡ value_in s l place n w
    unfolding halved
    halving-none h k = let z : left ≡ 0 = omega arith in sym (H.same_place k ∙ rw z refl)

    module _ (h : 0 < left) where
      abbrev step : ℕ → ℕ → ℕ
      step i m =
          cond (ltb low high) (cond (ltb i n) (by_order (order_at s l (base + 4 * i) w) (halved s l base n w (left - 1) (m + 1) high) (base + 4 * i) (halved s l base n w (left - 1) low m)) 0) 0

      one_more : (d : ℕ) → left ≡ suc d → halved s l base n w left low high ≡ step (ranked l base (middle low high)) (middle low high)
      unfolding halved
      one_more d e = let z : left - 1 ≡ d = omega arith in rw (z, e) refl

      stepped : key ≡ key_of w → value_in s l place n w ≡ step (ranked l base (middle low high)) (middle low high)
      stepped k = let z : left ≡ suc (left - 1) = omega arith in H.same_place k ∙ one_more (left - 1) z

      pub halving-empty : high ≤ low → key ≡ key_of w → 0 ≡ value_in s l place n w
      halving-empty g k = sym (stepped k ∙ rw (le-ltb low high g) refl)

      module _ (g : low < high) (mid : ℕ) (M : mid ≡ middle low high) where
        mid-below : mid < high
        unfolding middle
        mid-below = omega (arith, M)

        pub middle-next : Fits w32 n → Fits w32 (mid + 1)
        middle-next f = record { fits = omega (arith, f.fits, H.up, mid-below) }

        module _ (i : ℕ) (r : i ≡ ranked l base mid) where
          at-middle : key ≡ key_of w → value_in s l place n w ≡ step i mid
          at-middle k = stepped k ∙ rw (← M, ← r) refl

          pub halving-wild : n ≤ i → key ≡ key_of w → 0 ≡ value_in s l place n w
          halving-wild j k = sym (at-middle k ∙ rw (lt-ltb low high g, le-ltb i n j) refl)

          module _ (j : i < n) where
            rank-small : i < 256
            unfolding ranked
            rank-small = rw r (mod-lt (get_or l (base + 4 * mid + 1) 0 / 512) (omega arith))

            base-small : base < 32780
            unfolding first_value
            base-small = let z = mod-lt place {m = 32768} (omega arith) in omega (arith, H.base-is)

            pub value-times : Fits w32 (4 * i)
            value-times = record { fits = omega (arith, rank-small) }

            pub value-fits : Fits w32 (base + 4 * i)
            value-fits = record { fits = omega (arith, rank-small, base-small) }

            module _ (o : Ordering) (O : key ≡ key_of w → o ≡ order_at s l (base + 4 * i) w) where
              by-order : (x : Ordering) → o ≡ x → key ≡ key_of w
                  → value_in s l place n w ≡ by_order x (halved s l base n w (left - 1) (mid + 1) high) (base + 4 * i) (halved s l base n w (left - 1) low mid)
              by-order x e k = at-middle k ∙ rw (lt-ltb low high g, lt-ltb i n j, ← O k, e) refl

              pub halving-before : o ≡ order.Less → Halving s l place n key w base (mid + 1) high (left - 1)
              halving-before e = record { base-is = H.base-is; up = H.up; same_place = by-order order.Less e }

              pub halving-same : o ≡ order.Equal → key ≡ key_of w → base + 4 * i ≡ value_in s l place n w
              halving-same e k = sym (by-order order.Equal e k)

              pub halving-after : o ≡ order.Greater → Halving s l place n key w base low mid (left - 1)
              halving-after e = record { base-is = H.base-is; up = omega (arith, H.up, mid-below); same_place = by-order order.Greater e }

pub ruleset halving_laws = (halving-none, halving-empty, halving-wild, halving-same)
