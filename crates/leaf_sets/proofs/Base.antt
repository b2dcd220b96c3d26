-- Sets within a base lo to hi: which values are such sets, and that the operators stay within it. Assumes nothing.
use mathlib.Core.Path.{◌≡◌, refl, sym, ap, ◌∙◌}
use mathlib.Core.Bool.{Bool, true, false, not, ◌&&◌, ◌||◌, and-eq-true_iff, or-true, or-false, false≢true}
use mathlib.Core.List.{List, [], ◌∷◌}
use Prim.Native.Nat.{ℕ, ◌^◌, ◌≤◌, ◌<◌}
use native.Mathlib.Nat.{mod-eq_of_lt}
use native.Mathlib.Omega.{arith}
use borrow.Author.Tests.{le-leb, leb-true, lt-leb, eqb-true, eq-eqb}
use lib.Dec.{eqb, leb, lit<}
use lib.IntN.{ℤ, pos, negsuc, nat_abs}
use lib.Signed.{le_z, lt_z}
use mir.Syntax.{w64}
use mir.Val.{SFits}
use mir.Facts.{to_z-of_z}
use Rattle.leaf_sets.specs.Sets.{those, members, value_of, pattern_of, members_of, has, holds, least, greatest, with, union_of, difference_of, intersection_of, all, all_in, lies_in}
use Rattle.std.specs.Prelude.{Some}
use Rattle.leaf_sets.proofs.Those.{those-has, has_all, all-has}
use Rattle.leaf_sets.proofs.Digits.{members-value, value-lt, has-lt}
use Rattle.leaf_sets.proofs.Counts.{no_member, none_is}
use Rattle.leaf_sets.proofs.Signed.{wire, Outside, reach}

-- an ordinal i lies in lo to hi, and any z does
abbrev pub in_base : ℤ → ℤ → ℕ → Bool
in_base lo hi i = le_z lo (pos i) && le_z (pos i) hi

abbrev pub Inside : ℤ → ℤ → ℤ → Type 0
Inside lo hi z = (le_z lo z && le_z z hi) ≡ true

-- ---- a member that was asked for is there

pub least-has : (l : List ℕ) (x : ℕ) → least l ≡ Some x → has x l ≡ true
unfolding least has
least-has [] x e = absurd (no_member x e)
least-has (y ∷ l) x e = let q : y ≡ x = cc in rw (eq-eqb y x q)

pub greatest-has : (l : List ℕ) (x : ℕ) → greatest l ≡ Some x → has x l ≡ true
unfolding greatest has
greatest-has [] x e = absurd (no_member x e)
greatest-has (y ∷ []) x e = let q : y ≡ x = cc in rw (eq-eqb y x q)
greatest-has (y ∷ (z ∷ l)) x e = ap (λ (t : Bool). eqb y x || t) (greatest-has (z ∷ l) x e) ∙ or-true (eqb y x)

module _ (a : ℤ) (x : ℕ) where
  member-lt : has x (members_of a) ≡ true → x < 32
  unfolding members_of
  member-lt e = has-lt (pattern_of a) x e

  pub least_lt : least (members_of a) ≡ Some x → x < 32
  least_lt e = member-lt (least-has (members_of a) x e)

  pub greatest-lt : greatest (members_of a) ≡ Some x → x < 32
  greatest-lt e = member-lt (greatest-has (members_of a) x e)

either : {P : Type 0} (x y : Bool) → (x || y) ≡ true → (x ≡ true → P) → (y ≡ true → P) → P
either true y e f g = f refl
either false y e f g = g e

held : (z : ℤ) (i : ℕ) → holds z (i ∷ []) ≡ true → pos i ≡ z
unfolding holds has
held (pos n) i e = ap pos (eqb-true i n (sym (or-false (eqb i n)) ∙ e))
held (negsuc n) i e = absurd (false≢true e)

module _ (lo hi : ℤ) where
  -- ---- what holds of a value that lies in the base

  lies-parts : (n : ℕ) → lies_in lo hi (pos n) ≡ true → (n < 2 ^ 32) × (all (in_base lo hi) (members n) ≡ true)
  unfolding lies_in all_in
  lies-parts n h =
      let p = (and-eq-true_iff (leb n 4294967295) (all (in_base lo hi) (members n))).0 h in
      (omega (arith, leb-true n 4294967295 p.0), p.1)

  -- it is its own pattern
  pub lies-is : (a : ℤ) → lies_in lo hi a ≡ true → a ≡ pos (pattern_of a)
  unfolding lies_in pattern_of
  lies-is (pos n) h = ap pos (sym (mod-eq_of_lt (lies-parts n h).0))
  lies-is (negsuc n) h = absurd (false≢true h)

  pub lies-size : (a : ℤ) → lies_in lo hi a ≡ true → pattern_of a ≡ nat_abs a
  lies-size a h = sym (ap nat_abs (lies-is a h))

  pub lies-range : (a : ℤ) → lies_in lo hi a ≡ true → Inside (pos 0) (pos 4294967295) a
  unfolding lies_in
  lies-range (pos n) h = rw (le-leb 0 n (omega arith), le-leb n 4294967295 (omega (arith, (lies-parts n h).0)))
  lies-range (negsuc n) h = absurd (false≢true h)

  -- its members lie in the base
  pub lies-member : (a : ℤ) (x : ℕ) → lies_in lo hi a ≡ true → has x (members_of a) ≡ true → Inside lo hi (pos x)
  unfolding lies_in pattern_of members_of
  lies-member (pos n) x h m =
      let p = lies-parts n h in
      all-has (in_base lo hi) (members n) x p.1 (rw (mod-eq_of_lt p.0) at m)
  lies-member (negsuc n) x h m = absurd (false≢true h)

  pub least-lies : (a : ℤ) (x : ℕ) → lies_in lo hi a ≡ true → least (members_of a) ≡ Some x → Inside lo hi (pos x)
  least-lies a x h e = lies-member a x h (least-has (members_of a) x e)

  pub greatest-lies : (a : ℤ) (x : ℕ) → lies_in lo hi a ≡ true → greatest (members_of a) ≡ Some x → Inside lo hi (pos x)
  greatest-lies a x h e = lies-member a x h (greatest-has (members_of a) x e)

  -- ---- which values lie in the base

  -- the ordinals of a test that none outside the base passes
  pub those-lie : (f : ℕ → Bool) → ((i : ℕ) → i < 32 → f i ≡ true → Inside lo hi (pos i)) → lies_in lo hi (pos (value_of (those f 0 32))) ≡ true
  unfolding lies_in all_in
  those-lie f k =
      rw (le-leb (value_of (those f 0 32)) 4294967295 (omega (arith, value-lt f)), members-value f)
      (has_all (in_base lo hi) (those f 0 32)
      (λ x e. let p = those-has f 32 x e in k x p.0 p.1))

  pub empty-lies : lies_in lo hi (pos 0) ≡ true
  unfolding lies_in all_in all
  empty-lies = rw (none_is 0 (lit< tt) refl)

  module _ (a : ℤ) (h : lies_in lo hi a ≡ true) where
    pub union-lies : (b : ℤ) → lies_in lo hi b ≡ true → lies_in lo hi (pos (value_of (union_of (members_of a) (members_of b)))) ≡ true
    unfolding union_of
    union-lies b k =
        those-lie (λ i. has i (members_of a) || has i (members_of b))
        (λ i l e. either (has i (members_of a)) (has i (members_of b)) e (lies-member a i h) (lies-member b i k))

    -- less, or the common part, of any b
    pub difference-lies : (b : ℤ) → lies_in lo hi (pos (value_of (difference_of (members_of a) (members_of b)))) ≡ true
    unfolding difference_of
    difference-lies b =
        those-lie (λ i. has i (members_of a) && not (has i (members_of b)))
        (λ i l e. lies-member a i h ((and-eq-true_iff (has i (members_of a)) (not (has i (members_of b)))).0 e).0)

    pub intersection-lies : (b : ℤ) → lies_in lo hi (pos (value_of (intersection_of (members_of a) (members_of b)))) ≡ true
    unfolding intersection_of
    intersection-lies b =
        those-lie (λ i. has i (members_of a) && has i (members_of b))
        (λ i l e. lies-member a i h ((and-eq-true_iff (has i (members_of a)) (has i (members_of b))).0 e).0)

    pub with-lies : (z : ℤ) → Inside lo hi z → lies_in lo hi (pos (value_of (with z (members_of a)))) ≡ true
    unfolding with
    with-lies z k =
        those-lie (λ i. has i (members_of a) || holds z (i ∷ []))
        (λ i l e. either (has i (members_of a)) (holds z (i ∷ [])) e (lies-member a i h)
        (λ q. rw (held z i q) k))

  -- ---- the test of a value

  pub lies-none : (z : ℤ) → Outside 4294967295 z → false ≡ lies_in lo hi z
  unfolding lies_in
  lies-none (pos n) o = rw (lt-leb n 4294967295 o)
  lies-none (negsuc n) o = refl

  lies-there : (n : ℕ) (z : ℤ) → z ≡ pos n → n ≤ 4294967295 → all_in lo hi (members n) ≡ lies_in lo hi z
  unfolding lies_in
  lies-there n z e l = rw (e, le-leb n 4294967295 l)

  -- lo and hi as they are read back too
  pub lies-here : (z : ℤ) (r : Bool) → SFits w64 lo → SFits w64 hi → SFits w64 z → lt_z (wire z) (pos 0) ≡ false → lt_z (pos 4294967295) (wire z) ≡ false
      → r ≡ all_in (wire lo) (wire hi) (members (nat_abs (wire z))) → r ≡ lies_in lo hi z
  lies-here z r fl fh fz e f q =
      let p = reach z fz e 4294967295 f in
      (rw (to_z-of_z fl, to_z-of_z fh) at q) ∙ lies-there (nat_abs (wire z)) z p.2 p.1

pub ruleset lies_laws = (lies-none, lies-here)
