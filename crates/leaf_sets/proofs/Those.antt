-- What `those f i k` holds: of the k ordinals from i on, those that pass f, in order. Assumes nothing.
use mathlib.Core.Path.{◌≡◌, refl, sym, subst, ◌∙◌}
use mathlib.Core.Bool.{Bool, true, false, cond, ◌&&◌, ◌||◌, and-true, and-false, or-true, or-false, and-eq-true_iff, false≢true}
use mathlib.Core.Logic.{⊎_elim}
use mathlib.Core.List.{List, [], ◌∷◌}
use Prim.Native.Nat.{ℕ, zero, suc, ◌+◌, ◌≤◌, ◌<◌}
use native.Mathlib.Nat.{eq-or-lt_of_le}
use native.Mathlib.Decide.{dec_le}
use native.Mathlib.Omega.{arith}
use borrow.Author.Tests.{ne_eqb, eq-eqb, eqb-true}
use lib.Dec.{eqb}
use lib.ListN.{length}
use Rattle.leaf_sets.specs.Sets.{those, has, all}

-- ---- membership

has-cond : (b : Bool) (i j : ℕ) (l : List ℕ) → has j (cond b (i ∷ l) l) ≡ (b && eqb i j || has j l)
unfolding has
has-cond true i j l = refl
has-cond false i j l = refl

skip : (f : ℕ → Bool) (i j k : ℕ) → (i ≡ j → ⊥) → has j (those f i (suc k)) ≡ has j (those f (suc i) k)
unfolding those
skip f i j k n = has-cond (f i) i j (those f (suc i) k) ∙ rw (ne_eqb i j n, and-false (f i))

-- nothing before i, nothing from i + k on, and between them what passes
pub below : (f : ℕ → Bool) (i j k : ℕ) → j < i → has j (those f i k) ≡ false
unfolding those has
below f i j zero l = refl
below f i j (suc k) l = skip f i j k (λ (e : i ≡ j). omega arith) ∙ below f (suc i) j k (omega arith)

pub beyond : (f : ℕ → Bool) (i j k : ℕ) → i + k ≤ j → has j (those f i k) ≡ false
unfolding those has
beyond f i j zero l = refl
beyond f i j (suc k) l = skip f i j k (λ (e : i ≡ j). omega arith) ∙ beyond f (suc i) j k (omega arith)

pub inside : (f : ℕ → Bool) (i j k : ℕ) → i ≤ j → j < i + k → has j (those f i k) ≡ f j
unfolding those has
inside f i j zero l h = absurd (omega arith)
inside f i j (suc k) l h =
    ⊎_elim
    (λ e. subst (λ (m : ℕ). has m (those f i (suc k)) ≡ f m) e
    (has-cond (f i) i i (those f (suc i) k) ∙ rw (eq-eqb i i refl, and-true (f i), below f (suc i) i k (omega arith), or-false (f i))))
    (λ (n : i < j). skip f i j k (λ (e : i ≡ j). omega arith) ∙ inside f (suc i) j k n (omega arith))
    (eq-or-lt_of_le l)

-- what is there is in reach and passes
pub those-has : (f : ℕ → Bool) (k j : ℕ) → has j (those f 0 k) ≡ true → (j < k) × (f j ≡ true)
those-has f k j e = of (dec_le (suc j) k)
  where
    of : Dec (j < k) → (j < k) × (f j ≡ true)
    of (yes l) = (l, sym (inside f 0 j k (omega arith) (omega arith)) ∙ e)
    of (no n) = absurd (false≢true (sym (beyond f 0 j k (omega arith)) ∙ e))

pub those-same : (f g : ℕ → Bool) (i k : ℕ) → ((j : ℕ) → i ≤ j → j < i + k → f j ≡ g j) → those f i k ≡ those g i k
unfolding those
those-same f g i zero h = refl
those-same f g i (suc k) h = rw (h i (omega arith) (omega arith), those-same f g (suc i) k (λ j l m. h j (omega arith) (omega arith)))

-- ---- length

-- the digit 1 for true, 0 for false
abbrev pub digit : Bool → ℕ
digit b = cond b 1 0

pub cond-length : (b : Bool) (i : ℕ) (l : List ℕ) → length (cond b (i ∷ l) l) ≡ digit b + length l
cond-length true i l = omega arith
cond-length false i l = omega arith

pub digit-le : (b : Bool) → digit b ≤ 1
digit-le true = omega arith
digit-le false = omega arith

pub those-length : (f : ℕ → Bool) (i k : ℕ) → length (those f i k) ≤ k
unfolding those
those-length f i zero = omega arith
those-length f i (suc k) = omega (arith, cond-length (f i) i (those f (suc i) k), digit-le (f i), those-length f (suc i) k)

-- ---- `all`: each that is there passes

pub all-has : (f : ℕ → Bool) (l : List ℕ) (x : ℕ) → all f l ≡ true → has x l ≡ true → f x ≡ true
unfolding all has
all-has f [] x h e = absurd (false≢true e)
all-has f (y ∷ l) x h e =
    let p = (and-eq-true_iff (f y) (all f l)).0 h in
    of (eqb y x) refl e p.0 (λ m. all-has f l x p.1 m)
  where
    of : (t : Bool) → eqb y x ≡ t → (t || has x l) ≡ true → f y ≡ true → (has x l ≡ true → f x ≡ true) → f x ≡ true
    of true q e p r = rw (eqb-true y x q) at p
    of false q e p r = r e

pub has_all : (f : ℕ → Bool) (l : List ℕ) → ((x : ℕ) → has x l ≡ true → f x ≡ true) → all f l ≡ true
unfolding all has
has_all f [] h = refl
has_all f (y ∷ l) h = rw (h y (rw (eq-eqb y y refl)), has_all f l (λ x e. h x (rw e (or-true (eqb y x)))))
