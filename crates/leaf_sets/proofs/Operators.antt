-- The operators on patterns, digit by digit, are the operators on the lists of members. Assumes nothing.
use mathlib.Core.Path.{◌≡◌, refl, sym, ap, ap₂, ◌∙◌}
use mathlib.Core.Bool.{Bool, true, false, not, xor, ◌&&◌, ◌||◌, or-false, and-eq-true_iff}
use mathlib.Core.Logic.{⊎_elim}
use mathlib.Core.List.{[], ◌∷◌}
use Prim.Native.Nat.{ℕ, zero, suc, ◌+◌, ◌*◌, ◌/◌, ◌%◌, ◌^◌, ◌≤◌, ◌<◌, min, max}
use native.Mathlib.Nat.{one-mul, add-zero, mod-eq_of_lt, mul-add-mod_self_right, eq-or-lt_of_le}
use native.Mathlib.Omega.{arith}
use borrow.Author.Tests.{ne_eqb, eq-eqb, eqb-true}
use lib.Dec.{eqb}
use lib.IntN.{ℤ, pos, negsuc, nat_abs}
use lib.Signed.{lt_z}
use mir.Syntax.{w64}
use mir.Val.{SFits}
use lib.Pow.{pow-lt}
use lib.Bits.{bit_and, bit_or, bit_xor, differ, and_step, or_step, xor_step, and_shr, or_shr, xor_shr, and_lt, or_lt, xor_lt, and_comm, and_self}
use Rattle.leaf_sets.specs.Sets.{those, bit, members, value_of, has, holds, with, union_of, difference_of, intersection_of, all, within, equals}
use Rattle.leaf_sets.proofs.Signed.{wire, Outside, reach, ordinal-lt}
use Rattle.leaf_sets.proofs.Those.{digit, has_all, all-has}
use Rattle.leaf_sets.proofs.Digits.{digit-is, members-are, value-is, value-of, value-digit, has-is, has-none, has-lt}

-- ---- one digit

-- an operation that works digit by digit, by f on digits and by g on tests
module _ (op f : ℕ → ℕ → ℕ) (g : Bool → Bool → Bool)
    (shr : (a b k : ℕ) → op a b / 2 ^ k ≡ op (a / 2 ^ k) (b / 2 ^ k))
    (step : (a b : ℕ) → op a b ≡ op (a / 2) (b / 2) * 2 + f (a % 2) (b % 2))
    (table : (x y : Bool) → eqb (f (digit x) (digit y) % 2) 1 ≡ g x y) where
  op-bit : (s t i : ℕ) → bit (op s t) i ≡ g (bit s i) (bit t i)
  unfolding bit
  op-bit s t i =
      let a = s / 2 ^ i in let b = t / 2 ^ i in
      ap (λ (n : ℕ). eqb (n % 2) 1) (shr s t i ∙ step a b)
      ∙ ap (λ (n : ℕ). eqb n 1) (mul-add-mod_self_right (op (a / 2) (b / 2)) 2 (f (a % 2) (b % 2)))
      ∙ ap₂ (λ (x y : ℕ). eqb (f x y % 2) 1) (sym (digit-is a)) (sym (digit-is b))
      ∙ table (bit s i) (bit t i)

or-table : (x y : Bool) → eqb (max (digit x) (digit y) % 2) 1 ≡ (x || y)
or-table true true = refl
or-table true false = refl
or-table false true = refl
or-table false false = refl

and-table : (x y : Bool) → eqb (min (digit x) (digit y) % 2) 1 ≡ (x && y)
and-table true true = refl
and-table true false = refl
and-table false true = refl
and-table false false = refl

xor-table : (x y : Bool) → eqb (differ (digit x) (digit y) % 2) 1 ≡ xor x y
unfolding xor
xor-table true true = refl
xor-table true false = refl
xor-table false true = refl
xor-table false false = refl

xor-and : (x y : Bool) → xor x (x && y) ≡ (x && not y)
unfolding xor
xor-and true true = refl
xor-and true false = refl
xor-and false y = refl

or-bit : (s t i : ℕ) → bit (bit_or s t) i ≡ (bit s i || bit t i)
or-bit = op-bit bit_or max ◌||◌ or_shr or_step or-table

and-bit : (s t i : ℕ) → bit (bit_and s t) i ≡ (bit s i && bit t i)
and-bit = op-bit bit_and min ◌&&◌ and_shr and_step and-table

less-bit : (s t i : ℕ) → bit (bit_xor s (bit_and s t)) i ≡ (bit s i && not (bit t i))
less-bit s t i =
    op-bit bit_xor differ xor xor_shr xor_step xor-table s (bit_and s t) i
    ∙ ap (xor (bit s i)) (and-bit s t i) ∙ xor-and (bit s i) (bit t i)

-- ---- `+`, `-` and `*`

module _ (s t : ℕ) (h : s < 2 ^ 32) (k : t < 2 ^ 32) where
  -- a pattern whose digits are g of the two digits is the value of the list by g
  by_bits : (r : ℕ) (g : Bool → Bool → Bool) → r < 2 ^ 32 → ((i : ℕ) → bit r i ≡ g (bit s i) (bit t i))
      → r ≡ value_of (those (λ i. g (has i (members s)) (has i (members t))) 0 32)
  by_bits r g l e =
      value-of r (λ i. g (has i (members s)) (has i (members t))) l (λ j m. e j ∙ sym (ap₂ g (has-is s j m) (has-is t j m)))

  pub union_is : bit_or s t ≡ value_of (union_of (members s) (members t))
  unfolding union_of
  union_is = by_bits (bit_or s t) ◌||◌ (or_lt 32 s t h k) (or-bit s t)

  pub difference_is : bit_xor s (bit_and s t) ≡ value_of (difference_of (members s) (members t))
  unfolding difference_of
  difference_is = by_bits (bit_xor s (bit_and s t)) (λ x y. x && not y) (xor_lt 32 s (bit_and s t) h (and_lt 32 s t h k)) (less-bit s t)

  pub intersection_is : bit_and s t ≡ value_of (intersection_of (members s) (members t))
  unfolding intersection_of
  intersection_is = by_bits (bit_and s t) ◌&&◌ (and_lt 32 s t h k) (and-bit s t)

-- ---- `<=` and `=`

same_truth : (a b : Bool) → (a ≡ true → b ≡ true) → (b ≡ true → a ≡ true) → a ≡ b
same_truth true b f g = sym (f refl)
same_truth false true f g = g refl
same_truth false false f g = refl

absorbed : (a b : Bool) → (a ≡ true → b ≡ true) → (a && b) ≡ a
absorbed true b f = f refl
absorbed false b f = refl

module _ (s t : ℕ) (h : s < 2 ^ 32) (k : t < 2 ^ 32) where
  kept : bit_and s t ≡ s → (i : ℕ) → has i (members s) ≡ true → has i (members t) ≡ true
  kept e i m =
      let l = has-lt s i m in
      has-is t i l
      ∙ ((and-eq-true_iff (bit s i) (bit t i)).0 (sym (and-bit s t i) ∙ ap (λ (n : ℕ). bit n i) e ∙ sym (has-is s i l) ∙ m)).1

  common : ((i : ℕ) → has i (members s) ≡ true → has i (members t) ≡ true) → bit_and s t ≡ s
  common f =
      value-of (bit_and s t) (bit s) (and_lt 32 s t h k)
      (λ j l. and-bit s t j ∙ absorbed (bit s j) (bit t j) (λ e. sym (has-is t j l) ∙ f j (has-is s j l ∙ e)))
      ∙ ap value_of (sym (members-are s)) ∙ value-is s h

  pub included_is : eqb (bit_and s t) s ≡ within (members s) (members t)
  unfolding within
  included_is =
      same_truth (eqb (bit_and s t) s) (all (λ i. has i (members t)) (members s))
      (λ e. has_all (λ i. has i (members t)) (members s) (kept (eqb-true (bit_and s t) s e)))
      (λ e. eq-eqb (bit_and s t) s (common (λ i m. all-has (λ i. has i (members t)) (members s) i e m)))

pub equal_is : (s t : ℕ) → s < 2 ^ 32 → t < 2 ^ 32 → eqb s t ≡ equals (members s) (members t)
unfolding equals
equal_is s t h k =
    same_truth (eqb s t) (eqb (bit_and s t) s && eqb (bit_and t s) t)
    (λ e. let q = eqb-true s t e in rw (eq-eqb (bit_and s t) s (ap (bit_and s) (sym q) ∙ and_self s), eq-eqb (bit_and t s) t (ap (bit_and t) q ∙ and_self t)))
    (λ e. let p = (and-eq-true_iff (eqb (bit_and s t) s) (eqb (bit_and t s) t)).0 e in
    eq-eqb s t (sym (eqb-true (bit_and s t) s p.0) ∙ and_comm s t ∙ eqb-true (bit_and t s) t p.1))
    ∙ ap₂ ◌&&◌ (included_is s t h k) (included_is t s k h)

-- ---- `in` and one ordinal more, for an ordinal n below 32 and for one that is in no set

in_is : (s n : ℕ) (z : ℤ) → z ≡ pos n → n < 32 → eqb (s / 2 ^ n % 2) 1 ≡ holds z (members s)
unfolding bit holds
in_is s n z e l = rw e (sym (has-is s n l))

pub in-here : (s : ℕ) (z : ℤ) → SFits w64 z → lt_z (wire z) (pos 0) ≡ false → lt_z (pos 31) (wire z) ≡ false
    → eqb (s / 2 ^ nat_abs (wire z) % 2) 1 ≡ holds z (members s)
in-here s z h e f = in_is s (nat_abs (wire z)) z (reach z h e 31 f).2 (ordinal-lt z h e f)

pub in-none : (s : ℕ) (z : ℤ) → Outside 31 z → false ≡ holds z (members s)
unfolding holds
in-none s (pos n) h = sym (has-none s n h)
in-none s (negsuc n) h = refl

none-those : (f : ℕ → Bool) (i k : ℕ) → ((j : ℕ) → i ≤ j → f j ≡ false) → those f i k ≡ []
unfolding those
none-those f i zero h = refl
none-those f i (suc k) h = rw (h i (omega arith), none-those f (suc i) k (λ j l. h j (omega arith)))

one-those : (x i k : ℕ) → i ≤ x → x < i + k → those (λ j. eqb j x) i k ≡ x ∷ []
unfolding those
one-those x i zero l h = absurd (omega arith)
one-those x i (suc k) l h =
    ⊎_elim
    (λ (e : i ≡ x). rw (eq-eqb i x e, none-those (λ j. eqb j x) (suc i) k (λ j m. ne_eqb j x (λ (q : j ≡ x). omega arith))) (ap (λ (n : ℕ). n ∷ []) e))
    (λ (m : i < x). rw (ne_eqb i x (λ (q : i ≡ x). omega arith)) (one-those x (suc i) k m (omega arith)))
    (eq-or-lt_of_le l)

-- 2 ^ x has the one digit x
one_bit : (x j : ℕ) → x < 32 → j < 32 → bit (2 ^ x) j ≡ eqb j x
unfolding value_of
one_bit x j h l =
    ap (λ (n : ℕ). bit n j) (sym (ap value_of (one-those x 0 32 (omega arith) h) ∙ add-zero (2 ^ x))) ∙ value-digit (λ i. eqb i x) j l

module _ (s : ℕ) (h : s < 2 ^ 32) where
  insert-is : (n : ℕ) (z : ℤ) → z ≡ pos n → n < 32 → bit_or s (1 * 2 ^ n % 4294967296) ≡ value_of (with z (members s))
  unfolding with holds has
  insert-is n z e l =
      rw e
      (ap (λ (x : ℕ). bit_or s (x % 4294967296)) (one-mul (2 ^ n)) ∙ ap (bit_or s) (mod-eq_of_lt (pow-lt {j = 32} l))
      ∙ value-of (bit_or s (2 ^ n)) (λ j. has j (members s) || (eqb j n || false)) (or_lt 32 s (2 ^ n) h (pow-lt l))
      (λ j m. or-bit s (2 ^ n) j ∙ ap₂ ◌||◌ (sym (has-is s j m)) (one_bit n j l m ∙ sym (or-false (eqb j n)))))

  pub insert-here : (z : ℤ) → SFits w64 z → lt_z (wire z) (pos 0) ≡ false → lt_z (pos 31) (wire z) ≡ false
      → bit_or s (1 * 2 ^ nat_abs (wire z) % 4294967296) ≡ value_of (with z (members s))
  insert-here z k e f = insert-is (nat_abs (wire z)) z (reach z k e 31 f).2 (ordinal-lt z k e f)

  unmoved : (z : ℤ) → Outside 31 z → (j : ℕ) → j < 32 → holds z (j ∷ []) ≡ false
  unfolding holds has
  unmoved (pos n) o j l = rw (ne_eqb j n (λ (q : j ≡ n). omega arith))
  unmoved (negsuc n) o j l = refl

  pub insert-none : (z : ℤ) → Outside 31 z → s ≡ value_of (with z (members s))
  unfolding with
  insert-none z o =
      value-of s (λ j. has j (members s) || holds z (j ∷ [])) h
      (λ j l. sym (ap₂ ◌||◌ (has-is s j l) (unmoved z o j l) ∙ or-false (bit s j)))

pub ruleset in_laws = (in-none, in-here)

pub ruleset insert_laws = (insert-none, insert-here)
