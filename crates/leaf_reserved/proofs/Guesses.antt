-- The slot of a word, and the word that has it: no two words of the table share one, by computation. Assumes nothing.
use mathlib.Core.Path.{◌≡◌, refl, sym, ap, ◌∙◌}
use mathlib.Core.Bool.{Bool, true, false, cond, ◌&&◌}
use mathlib.Core.List.{List, [], ◌∷◌, map}
use Prim.Native.Nat.{ℕ, zero, suc, ◌+◌, ◌*◌, ◌-◌, ◌/◌, ◌%◌, ◌<◌, ◌≤◌}
use native.Mathlib.Nat.{le_of_suc-le-suc, not-suc-le-zero}
use native.Mathlib.Omega.{arith}
use borrow.Author.Tests.{ne_eqb}
use lib.Dec.{eqb, leb}
use lib.ListN.{length, get_or, length-map, get_or-map}
use Rattle.leaf_bytes.specs.Bytes.{bytes, small}
use Rattle.leaf_bytes.proofs.Same.{same-equal, small_at}
use Rattle.leaf_reserved.specs.Table.{reserved, operators, fixed, is_fixed}
use Rattle.leaf_reserved.specs.Slots.{slot_of, spot, guess}
use Rattle.leaf_reserved.proofs.Arms.{Missed, count}

-- ---- `slot_of`
pub slot_is : (w : List ℕ) (a b c : ℕ) → a ≡ get_or w 0 0 → b ≡ get_or w (length w / 2) 0 → c ≡ get_or w (length w - 1) 0
    → (24 * a + 32 * b + 48 * c + 5 * length w) % 256 ≡ slot_of w
unfolding slot_of
slot_is w a b c f g h = rw (f, g, h)

-- ---- case makes no difference: a small letter's number is that of the capital and 32 more
by-test : (b : ℕ) (t : Bool) → (q : ℕ) × (cond t (b + 32) b ≡ b + 32 * q)
by-test b true = (1, omega arith)
by-test b false = (0, omega arith)

raised : (b : ℕ) → (q : ℕ) × (small b ≡ b + 32 * q)
unfolding small
raised b = by-test b (leb 65 b && leb b 90)

pub slot_small : (w : List ℕ) → slot_of (map small w) ≡ slot_of w
unfolding slot_of
slot_small w =
    let p = raised (get_or w 0 0) in
    let q = raised (get_or w (length w / 2) 0) in
    let r = raised (get_or w (length w - 1) 0) in
    rw (length-map w small, small_at w 0, small_at w (length w / 2), small_at w (length w - 1), p.1, q.1, r.1) (omega arith)

-- ---- `guess_at`
pub guess-at : (h n k : ℕ) → h ≡ n → k ≡ guess n → k ≡ guess h
guess-at h n k e f = rw e f

no-spot : (h : ℕ) (T : Type 0) (ss : List ℕ) → Missed h T ss → T × (length ss ≡ spot h ss)
unfolding spot
no-spot h T [] m = (m, refl)
no-spot h T (s ∷ ss) m = let r = no-spot h (T × ((h ≡ s) → ⊥)) ss m in (r.0.0, rw (ne_eqb h s r.0.1) (ap suc r.1))

abbrev pub slots : List ℕ
slots = map (λ (w : List ℕ). slot_of w) fixed

pub guess-none : (h : ℕ) → Missed h (Unit {0}) slots → length slots ≡ guess h
unfolding guess
guess-none h m = (no-spot h (Unit {0}) slots m).1

pub ruleset guess-laws = (guess-at, guess-none)

-- ---- the guess for a word of the table is its place
count_at : (m n k d : ℕ) → k < n → get_or (count m n) k d ≡ m + k
count_at m zero k d l = absurd (not-suc-le-zero l)
count_at m (suc n) zero d l = omega arith
count_at m (suc n) (suc k) d l = count_at (suc m) n k d (le_of_suc-le-suc l) ∙ omega arith

-- what numbers the words of the table in their order gives each its place
pub numbered : (f : List ℕ → ℕ) → map f fixed ≡ count 0 57 → (k : ℕ) → k < 57 → f (get_or fixed k []) ≡ k
numbered f e k l = sym (get_or-map f fixed k []) ∙ ap (λ (p : List ℕ). get_or p k (f [])) e ∙ count_at 0 57 k (f []) l ∙ omega arith

abbrev guessed : List ℕ → ℕ
guessed w = guess (slot_of w)

guesses : map guessed fixed ≡ count 0 57
unfolding guess spot slot_of fixed reserved operators bytes
guesses = refl

-- so a word that is word k, case ignored, is guessed as k
pub guess-is : (w : List ℕ) (k : ℕ) → k < 57 → is_fixed w k ≡ true → guess (slot_of w) ≡ k
unfolding is_fixed
guess-is w k l t =
    ap guess (sym (slot_small w) ∙ ap slot_of (same-equal (map small w) (get_or fixed k []) t)) ∙ numbered guessed guesses k l

-- a guess is a place or 57
most-by : (t : Bool) (n m : ℕ) → n ≤ m → cond t 0 (suc n) ≤ suc m
most-by true n m l = omega arith
most-by false n m l = omega arith

spot-most : (h : ℕ) (ss : List ℕ) → spot h ss ≤ length ss
unfolding spot
spot-most h [] = omega arith
spot-most h (s ∷ ss) = most-by (eqb h s) (spot h ss) (length ss) (spot-most h ss)

pub guess-most : (h : ℕ) → guess h ≤ length fixed
unfolding guess
guess-most h = let l = spot-most h slots in omega (arith, length-map fixed (λ (w : List ℕ). slot_of w))
