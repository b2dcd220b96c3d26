-- Words compared at offsets, and entries looked up by name.
use mathlib.Core.Path.{◌≡◌, refl, sym, ap, ◌∙◌}
use mathlib.Core.Bool.{Bool, true, false, cond, ◌&&◌}
use mathlib.Core.List.{List, map}
use Prim.Native.Nat.{ℕ, zero, suc, ◌+◌, ◌*◌, ◌-◌, ◌/◌, ◌%◌, ◌<◌, ◌≤◌}
use native.Mathlib.Omega.{arith}
use borrow.Author.Tests.{eq-eqb, ne_eqb, eqb-true, eqb-false}
use mir.Syntax.{w64}
use mir.Val.{Fits}
use lib.Dec.{eqb}
use lib.ListN.{length, get_or}
use Rattle.leaf_bytes.specs.Bytes.{small, same}
use Rattle.law.specs.Base.{Name}
use Rattle.law.specs.Trees.{word_at}
use Rattle.table_names.specs.Letters.{letter_of, byte_at, meets}
use Rattle.table_names.specs.Keys.{key_of}
use Rattle.table_names.specs.Chain.{name_at, key_at, is_called, values_by, values_behind, first_value, value_in, or_else, sought_in, place_by, link_at, past_values, Seeks}
use Rattle.table_names.specs.declared.letters.Meeting.{Meeting}
use Rattle.table_names.specs.declared.letters.Meeting.TheVariants as meeting
use Rattle.table_names.specs.declared.Link.{Link}
use Rattle.table_names.specs.declared.Spot.{Spot}
use Rattle.table_names.proofs.Spelled.{Letters, ended, going, letters}

-- ---- `same_word`: what is left of the words, from p and q on, tells whether the words at a and b are the same
pub record Comparing (s : List ℕ) (a b p q : ℕ) : Type 0 where
  pub same_left : same (map small (word_at s a)) (map small (word_at s b)) ≡ same (map small (word_at s p)) (map small (word_at s q))

pub compare-start : (s : List ℕ) (a b : ℕ) → Comparing s a b a b
compare-start s a b = record { same_left = refl }

-- what two letters' meeting tells of them
pub data Met (a b : ℕ) : Meeting → Type 0 where
  same_met : a ≡ b → ((a ≡ 0) → ⊥) → Met a b meeting.Same
  end-met : a ≡ 0 → b ≡ 0 → Met a b meeting.End
  differ-met : eqb a b ≡ false → Met a b meeting.Differ

pub met : (a b : ℕ) → Met a b (meets a b)
unfolding meets
met a b = go (eqb a b) refl (eqb a 0) refl
  where
    go : (t : Bool) → eqb a b ≡ t → (u : Bool) → eqb a 0 ≡ u → Met a b (cond t (cond u meeting.End meeting.Same) meeting.Differ)
    go false e u f = differ-met e
    go true e true f = let g = eqb-true a b e in let h = eqb-true a 0 f in end-met h (sym g ∙ h)
    go true e false f = same_met (eqb-true a b e) (eqb-false a 0 f)

module _ (s : List ℕ) (a b p q : ℕ) (C : Comparing s a b p q) (m : Meeting) (e : m ≡ meets (letter_of (byte_at s p)) (letter_of (byte_at s q))) where
  here : (k : Meeting) → m ≡ k → Met (letter_of (byte_at s p)) (letter_of (byte_at s q)) k
  here k f = rw (← f, e) (met (letter_of (byte_at s p)) (letter_of (byte_at s q)))

  pub compare-differ : m ≡ meeting.Differ → false ≡ same (map small (word_at s a)) (map small (word_at s b))
  unfolding same
  compare-differ f = sym (C.same_left ∙ go (here meeting.Differ f) (letters s p) (letters s q))
    where
      go : Met (letter_of (byte_at s p)) (letter_of (byte_at s q)) meeting.Differ → Letters s p → Letters s q → same (map small (word_at s p)) (map small (word_at s q)) ≡ false
      go (differ-met n) (ended z _) (ended w _) = absurd (eqb-false _ _ n (z ∙ sym w))
      go (differ-met n) (ended _ i) (going _ _ j) = rw (i, j) refl
      go (differ-met n) (going _ _ i) (ended _ j) = rw (i, j) refl
      go (differ-met n) (going _ _ i) (going _ _ j) = rw (i, j, n) refl

  pub compare-ended : m ≡ meeting.End → true ≡ same (map small (word_at s a)) (map small (word_at s b))
  unfolding same
  compare-ended f = sym (C.same_left ∙ go (here meeting.End f) (letters s p) (letters s q))
    where
      go : Met (letter_of (byte_at s p)) (letter_of (byte_at s q)) meeting.End → Letters s p → Letters s q → same (map small (word_at s p)) (map small (word_at s q)) ≡ true
      go (end-met x y) (ended _ i) (ended _ j) = rw (i, j) refl
      go (end-met x y) (going _ n _) _ = absurd (n x)
      go (end-met x y) (ended _ _) (going _ n _) = absurd (n y)

  module _ (f : m ≡ meeting.Same) where
    both : (p < length s) × (q < length s) × (same (map small (word_at s p)) (map small (word_at s q)) ≡ same (map small (word_at s (p + 1))) (map small (word_at s (q + 1))))
    unfolding same
    both = go (here meeting.Same f) (letters s p) (letters s q)
      where
        go : Met (letter_of (byte_at s p)) (letter_of (byte_at s q)) meeting.Same → Letters s p → Letters s q
            → (p < length s) × (q < length s) × (same (map small (word_at s p)) (map small (word_at s q)) ≡ same (map small (word_at s (p + 1))) (map small (word_at s (q + 1))))
        go (same_met x n) (ended z _) _ = absurd (n z)
        go (same_met x n) (going _ _ _) (ended z _) = absurd (n (x ∙ z))
        go (same_met x n) (going h _ i) (going g _ j) = (h, g, rw (i, j, eq-eqb _ _ x) refl)

    pub compare-left : Fits w64 (length s) → Fits w64 (p + 1)
    compare-left g = record { fits = omega (arith, both.0, g.fits) }

    pub compare-right : Fits w64 (length s) → Fits w64 (q + 1)
    compare-right g = record { fits = omega (arith, both.1, g.fits) }

    pub compare-falls : length s - (p + 1) < length s - p
    compare-falls = omega (arith, both.0)

    pub compare-on : Comparing s a b (p + 1) (q + 1)
    compare-on = record { same_left = C.same_left ∙ both.2 }

pub ruleset compare-laws = (compare-differ, compare-ended, compare-on)

-- ---- small functions

pub values-type : (sort more : ℕ) → sort % 4 ≡ 0 → more ≡ values_by sort more
unfolding values_by
values-type sort more h = rw (eq-eqb (sort % 4) 0 h) refl

pub values_other : (sort more : ℕ) → ((sort % 4 ≡ 0) → ⊥) → 0 ≡ values_by sort more
unfolding values_by
values_other sort more h = rw (ne_eqb (sort % 4) 0 h) refl

pub ruleset values_by_laws = (values-type, values_other)

pub link-there : (l : List ℕ) (p a b c d v : ℕ) → a ≡ get_or l p 0 → b ≡ get_or l (p + 1) 0 → c ≡ get_or l (p + 2) 0 → v ≡ values_by b c → d ≡ get_or l (p + 3) 0
    → record { first = a; values = v; next = d } ≡ link_at l p
unfolding values_behind
link-there l p a b c d v e f g h i = rw (h, e, f, g, i) refl

pub past-there : (l : List ℕ) (n p v b c d x t : ℕ) → b ≡ first_value p → c ≡ v - 1 → d ≡ n - 1 → x ≡ d - v → t ≡ get_or l (b + 4 * c + 3) 0
    → record { left = x; place = t } ≡ past_values l n p v
past-there l n p v b c d x t e f g h i = rw (h, g, i, e, f) refl

module _ (s : List ℕ) (first key : ℕ) (w : Name) where
  pub called-by-word : first / 32768 ≡ key → (b : Bool) → b ≡ same (map small (word_at s (first % 32768))) w → b ≡ (eqb (first / 32768) key && same (map small (word_at s (first % 32768))) w)
  called-by-word h b e = rw (eq-eqb (first / 32768) key h) e

  pub called-not : ((first / 32768 ≡ key) → ⊥) → false ≡ (eqb (first / 32768) key && same (map small (word_at s (first % 32768))) w)
  called-not h = rw (ne_eqb (first / 32768) key h) refl

pub ruleset called_laws = (called-by-word, called-not)

pub less-more : (n m : ℕ) → n ≤ m → 0 ≡ n - m
less-more n m h = omega arith

-- ---- the place by its own parts

-- more steps than entries change nothing
steps-enough : (s l : List ℕ) (w : Name) (f g n p : ℕ) → n ≤ f → n ≤ g → sought_in s l w f n p ≡ sought_in s l w g n p
unfolding sought_in
steps-enough s l w zero zero n p h i = refl
steps-enough s l w zero (suc g) n p h i = rw (eq-eqb n 0 (omega arith)) refl
steps-enough s l w (suc f) zero n p h i = rw (eq-eqb n 0 (omega arith)) refl
steps-enough s l w (suc f) (suc g) n p h i = rw (
  steps-enough s l w f g (n - 1) (get_or l (p + 3) 0) (omega arith) (omega arith),
  steps-enough s l w f g (n - 1 - values_behind l p) (get_or l (first_value p + 4 * (values_behind l p - 1) + 3) 0) (omega arith) (omega arith),
) refl

pub place_none : (s l : List ℕ) (w : Name) (n p : ℕ) → n ≡ 0 → place_by s l n p w ≡ 0
unfolding place_by sought_in
place_none s l w n p h = rw h refl

pub place-on : (s l : List ℕ) (w : Name) (n p : ℕ) → 0 < n
    → place_by s l n p w
    ≡ cond (is_called s l p w) p
    (cond (eqb (values_behind l p) 0) (place_by s l (n - 1) (get_or l (p + 3) 0) w)
    (or_else (value_in s l p (values_behind l p) w) (place_by s l (n - 1 - values_behind l p) (get_or l (first_value p + 4 * (values_behind l p - 1) + 3) 0) w)))
unfolding place_by sought_in
place-on s l w zero p h = absurd (omega arith)
place-on s l w (suc n) p h =
    let a : suc n - 1 ≡ n = omega arith in
    rw (
      ne_eqb (suc n) 0 (λ e. omega arith),
      a,
      steps-enough s l w n (n - values_behind l p) (n - values_behind l p) (get_or l (first_value p + 4 * (values_behind l p - 1) + 3) 0) (omega arith) (omega arith),
    ) refl

-- ---- `seek`

-- p and the n entries from it on are still to be asked
pub record Seeking (l : List ℕ) (k count newest n p : ℕ) : Type 0 where
  pub few : n ≤ count
  pub rest : (s : List ℕ) (w : Name) → key_of w ≡ k → place_by s l count newest w ≡ place_by s l n p w

module _ (l : List ℕ) (k count newest : ℕ) where
  pub seek-start : Seeking l k count newest count newest
  seek-start = record { few = omega arith; rest = λ _ _ _. refl }

  module _ (n p : ℕ) (S : Seeking l k count newest n p) where
    pub seek-none : n ≤ 0 → Seeks l k count newest (record { left = 0; place = 0 })
    seek-none h = record { few = omega arith; from = λ s w e. S.rest s w e ∙ place_none s l w n p (omega arith) ∙ sym (place_none s l w 0 0 refl) }

    pub seek_found : Seeks l k count newest (record { left = n; place = p })
    seek_found = record { few = S.few; from = S.rest }

    module _ (h : 0 < n) (e : Link) (i : e ≡ link_at l p) where
      pub seek-on : ((e.first / 32768 ≡ k) → ⊥) → e.values ≤ 0 → Seeking l k count newest (n - 1) e.next
      unfolding is_called key_at
      seek-on f v = record { few = omega (arith, S.few); rest = λ s w g. S.rest s w g ∙ on s w g }
        where
          none-behind : values_behind l p ≡ 0
          none-behind = let z : values_behind l p ≡ e.values = sym (ap (λ (x : Link). x.values) i) in omega arith

          on : (s : List ℕ) (w : Name) → key_of w ≡ k → place_by s l n p w ≡ place_by s l (n - 1) e.next w
          on s w g =
              let c : eqb (get_or l p 0 / 32768) (key_of w) ≡ false = ne_eqb _ _ (λ z. f (ap (λ (x : Link). x.first / 32768) i ∙ z ∙ g)) in
              place-on s l w n p h ∙ rw (c, eq-eqb (values_behind l p) 0 none-behind, i) refl

pub ruleset seek-laws = (seek-none, seek_found, seek-on)

-- ---- `lookup`

-- the chain is walked from p on, where n entries are left
pub record Walking (s l : List ℕ) (w : Name) (count newest n p : ℕ) : Type 0 where
  pub same_place : place_by s l count newest w ≡ place_by s l n p w

module _ (s l : List ℕ) (w : Name) (count newest : ℕ) where
  pub walk_start : Walking s l w count newest count newest
  walk_start = record { same_place = refl }

  module _ (n p : ℕ) (S : Walking s l w count newest n p) (key : ℕ) (k : key ≡ key_of w) (r : Spot) (R : Seeks l key n p r) where
    place-there : place_by s l count newest w ≡ place_by s l r.left r.place w
    place-there = S.same_place ∙ R.from s w (sym k)

    pub walk_none : r.left ≡ 0 → 0 ≡ place_by s l count newest w
    walk_none h = sym (place-there ∙ place_none s l w r.left r.place h)

    module _ (h : (r.left ≡ 0) → ⊥) (e : Link) (i : e ≡ link_at l r.place) (b : Bool) (t : b ≡ (eqb (e.first / 32768) key && same (map small (word_at s (e.first % 32768))) w)) where
      some_left : 0 < r.left
      some_left = omega (arith, h)

      values-are : e.values ≡ values_behind l r.place
      values-are = ap (λ (x : Link). x.values) i

      asked : is_called s l r.place w ≡ b
      unfolding is_called name_at key_at
      asked = sym (t ∙ rw (i, k) refl)

      pub walk-found : b ≡ true → r.place ≡ place_by s l count newest w
      walk-found f = sym (place-there ∙ place-on s l w r.left r.place some_left ∙ rw (asked, f) refl)

      module _ (f : b ≡ false) where
        pub walk-less : r.left - 1 < n
        walk-less = omega (arith, some_left, R.few)

        pub walk-on : e.values ≡ 0 → Walking s l w count newest (r.left - 1) e.next
        walk-on v =
            let z : eqb (values_behind l r.place) 0 ≡ true = eq-eqb _ 0 (sym values-are ∙ v) in
            record { same_place = place-there ∙ place-on s l w r.left r.place some_left ∙ rw (asked, f, z, i) refl }

        module _ (v : (e.values ≡ 0) → ⊥) (q : ℕ) (Q : key ≡ key_of w → q ≡ value_in s l r.place e.values w) where
          behind : place_by s l count newest w
              ≡ or_else q (place_by s l (r.left - 1 - e.values) (get_or l (first_value r.place + 4 * (e.values - 1) + 3) 0) w)
          behind =
              let z : eqb (values_behind l r.place) 0 ≡ false = ne_eqb _ 0 (λ g. v (values-are ∙ g)) in
              place-there ∙ place-on s l w r.left r.place some_left ∙ rw (asked, f, z, ← values-are, ← Q k) refl

          pub walk-value : 0 < q → q ≡ place_by s l count newest w
          unfolding or_else
          walk-value g = sym (behind ∙ rw (ne_eqb q 0 (λ z. omega arith)) refl)

          module _ (g : q ≤ 0) (x : Spot) (X : x ≡ past_values l r.left r.place e.values) where
            pub walk-past-less : x.left < n
            walk-past-less = let z : x.left ≡ r.left - 1 - e.values = ap (λ (y : Spot). y.left) X in omega (arith, some_left, R.few)

            pub walk-past : Walking s l w count newest x.left x.place
            unfolding or_else
            walk-past = let z : q ≡ 0 = omega arith in record { same_place = behind ∙ rw (eq-eqb q 0 z, X) refl }

pub ruleset walk-less-laws = (walk-less, walk-past-less)

pub ruleset walk-laws = (walk_none, walk-found, walk-on, walk-value, walk-past)
