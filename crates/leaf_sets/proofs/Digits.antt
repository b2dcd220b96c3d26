-- The number whose digits, lowest first, a test gives, and the value of the ordinals that pass that test: they are one number. Assumes nothing.
use mathlib.Core.Path.{◌≡◌, refl, sym, ap, subst, ◌∙◌}
use mathlib.Core.Bool.{Bool, true, false, cond}
use mathlib.Core.List.{List, ◌∷◌}
use Prim.Native.Nat.{ℕ, zero, suc, ◌+◌, ◌*◌, ◌/◌, ◌%◌, ◌^◌, ◌≤◌, ◌<◌}
use native.Mathlib.Nat.{mul_assoc, mul_left_comm, add-mul, mul-one, one-mul, zero-mul, pow-succ', mod-lt, div-one, zero-add, add-zero}
use native.Mathlib.Numerals.{add-one, one-add}
use native.Mathlib.Omega.{arith}
use lib.Dec.{eqb, lit<}
use lib.Arith.{lt-one}
use lib.Pow.{shr-shr, shr_lt}
use lib.ListN.{length}
use lib.IntN.{pos}
use mir.Syntax.{w64}
use mir.Val.{to_z}
use mir.Facts.{to_z_pos}
use Rattle.leaf_sets.specs.Sets.{those, bit, members, value_of, has}
use Rattle.leaf_sets.proofs.Those.{digit, digit-le, those-same, those-has, those-length, inside, beyond}

-- the k digits f i, f (i + 1) and so on, f i lowest
unfoldable pub number : (ℕ → Bool) → ℕ → ℕ → ℕ
number f i zero = 0
number f i (suc k) = digit (f i) + 2 * number f (suc i) k

pub digit-mod : (b : Bool) (n : ℕ) → (digit b + 2 * n) % 2 ≡ digit b
digit-mod true n = omega arith
digit-mod false n = omega arith

pub digit-div : (b : Bool) (n : ℕ) → (digit b + 2 * n) / 2 ≡ n
digit-div true n = omega arith
digit-div false n = omega arith

digit-back : (b : Bool) → eqb (digit b) 1 ≡ b
digit-back true = refl
digit-back false = refl

-- a number's lowest digit
pub digit-is : (n : ℕ) → digit (eqb (n % 2) 1) ≡ n % 2
digit-is n = of (n % 2) (mod-lt n (lit< tt))
  where
    of : (d : ℕ) → d < 2 → digit (eqb d 1) ≡ d
    of zero l = refl
    of (suc zero) l = refl
    of (suc (suc d)) l = absurd (omega arith)

pub number_lt : (f : ℕ → Bool) (i k : ℕ) → number f i k < 2 ^ k
unfolding number
number_lt f i zero = lit< tt
number_lt f i (suc k) = omega (arith, digit-le (f i), number_lt f (suc i) k, pow-succ' 2 k)

pub number-digit : (f : ℕ → Bool) (i k j : ℕ) → j < k → bit (number f i k) j ≡ f (i + j)
unfolding number bit
number-digit f i zero j l = absurd (omega arith)
number-digit f i (suc k) zero l =
    ap (λ (n : ℕ). eqb (n % 2) 1) (div-one (number f i (suc k)))
    ∙ ap (λ (n : ℕ). eqb n 1) (digit-mod (f i) (number f (suc i) k)) ∙ digit-back (f i) ∙ ap f (sym (add-zero i))
number-digit f i (suc k) (suc j) l =
    let n = number f i (suc k) in
    let halved : n / 2 ^ suc j ≡ n / 2 / 2 ^ j = ap (λ (m : ℕ). n / 2 ^ m) (sym (one-add j)) ∙ sym (shr-shr n 1 j) in
    ap (λ (m : ℕ). eqb (m % 2) 1) (halved ∙ ap (λ (m : ℕ). m / 2 ^ j) (digit-div (f i) (number f (suc i) k)))
    ∙ number-digit f (suc i) k j (omega arith) ∙ ap f (omega arith)

-- a number has its own digits
number_at : (s i k : ℕ) → s / 2 ^ i < 2 ^ k → number (bit s) i k ≡ s / 2 ^ i
unfolding number bit
number_at s i zero h = sym (lt-one h)
number_at s i (suc k) h =
    let t = s / 2 ^ i in
    let half : t / 2 ≡ s / 2 ^ suc i = shr-shr s i 1 ∙ ap (λ (m : ℕ). s / 2 ^ m) (add-one i) in
    let rest = number_at s (suc i) k (subst (λ (n : ℕ). n < 2 ^ k) half (shr_lt k 1 (rw (add-one k) h))) in
    omega (arith, digit-is t, rest)

pub number_is : (s k : ℕ) → s < 2 ^ k → number (bit s) 0 k ≡ s
number_is s k h = number_at s 0 k (rw (div-one s) h) ∙ div-one s

-- and its value is the sum of 2 to the places of its ones
cond_value : (b : Bool) (i : ℕ) (l : List ℕ) → value_of (cond b (i ∷ l) l) ≡ digit b * 2 ^ i + value_of l
unfolding value_of
cond_value true i l = rw (one-mul (2 ^ i))
cond_value false i l = rw (zero-mul (2 ^ i), zero-add (value_of l))

value-at : (f : ℕ → Bool) (i k : ℕ) → value_of (those f i k) ≡ number f i k * 2 ^ i
unfolding number those value_of
value-at f i zero = sym (zero-mul (2 ^ i))
value-at f i (suc k) =
    let d = digit (f i) in let n = number f (suc i) k in let p = 2 ^ i in
    cond_value (f i) i (those f (suc i) k)
    ∙ ap (λ (v : ℕ). d * p + v) (value-at f (suc i) k ∙ ap (λ (q : ℕ). n * q) (pow-succ' 2 i) ∙ mul_left_comm n 2 p ∙ sym (mul_assoc 2 n p))
    ∙ sym (add-mul d (2 * n) p)

pub value-number : (f : ℕ → Bool) (k : ℕ) → value_of (those f 0 k) ≡ number f 0 k
value-number f k = value-at f 0 k ∙ mul-one (number f 0 k)

-- ---- patterns of 32 digits

pub members-are : (s : ℕ) → members s ≡ those (bit s) 0 32
unfolding members
members-are s = refl

-- a pattern is the value of its members
pub value-is : (s : ℕ) → s < 2 ^ 32 → value_of (members s) ≡ s
value-is s h = ap value_of (members-are s) ∙ value-number (bit s) 32 ∙ number_is s 32 h

-- as a cell holds it
pub value_read : (s : ℕ) → s < 2 ^ 32 → to_z w64 s ≡ pos (value_of (members s))
value_read s h = to_z_pos w64 (omega arith) ∙ ap pos (sym (value-is s h))

pub value-lt : (f : ℕ → Bool) → value_of (those f 0 32) < 2 ^ 32
value-lt f = rw (value-number f 32) (number_lt f 0 32)

pub value-digit : (f : ℕ → Bool) (j : ℕ) → j < 32 → bit (value_of (those f 0 32)) j ≡ f j
value-digit f j l = ap (λ (n : ℕ). bit n j) (value-number f 32) ∙ number-digit f 0 32 j l ∙ ap f (zero-add j)

-- any test's ordinals are the members of their value
pub members-value : (f : ℕ → Bool) → members (value_of (those f 0 32)) ≡ those f 0 32
members-value f = members-are (value_of (those f 0 32)) ∙ those-same (bit (value_of (those f 0 32))) f 0 32 (λ j l h. value-digit f j h)

-- a pattern with the digits f is the value of what passes f
pub value-of : (r : ℕ) (f : ℕ → Bool) → r < 2 ^ 32 → ((j : ℕ) → j < 32 → bit r j ≡ f j) → r ≡ value_of (those f 0 32)
value-of r f h e = sym (value-is r h) ∙ ap value_of (members-are r ∙ those-same (bit r) f 0 32 (λ j l m. e j m))

-- which ordinals a pattern has
pub has-is : (s j : ℕ) → j < 32 → has j (members s) ≡ bit s j
has-is s j h = ap (has j) (members-are s) ∙ inside (bit s) 0 j 32 (omega arith) h

pub has-none : (s j : ℕ) → 32 ≤ j → has j (members s) ≡ false
has-none s j h = ap (has j) (members-are s) ∙ beyond (bit s) 0 j 32 h

pub has-lt : (s j : ℕ) → has j (members s) ≡ true → j < 32
has-lt s j e = (those-has (bit s) 32 j (rw (members-are s) at e)).0

pub members-length : (s : ℕ) → length (members s) ≤ 32
members-length s = rw (members-are s) (those-length (bit s) 0 32)
