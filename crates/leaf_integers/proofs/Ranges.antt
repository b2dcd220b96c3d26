-- What `ranged`, `exact` and `inside` give, and what an answer of theirs tells. The laws of the functions
-- use only these, and never open the definitions. Assumes nothing.
use mathlib.Core.Path.{◌≡◌, refl, sym, ap, ◌∙◌}
use mathlib.Core.Bool.{Bool, true, false, ◌&&◌, and-true, and-false, and-eq-true_iff}
use Prim.Native.Nat.{ℕ, suc, ◌≤◌, ◌<◌}
use native.Mathlib.Omega.{arith}
use borrow.Author.Tests.{le-leb, lt-leb, leb-true, leb-false, ne_eqb}
use lib.Dec.{leb, leb-suc-suc}
use lib.IntN.{ℤ, pos, negsuc, nat_abs}
use lib.Signed.{mag, le_z}
use Rattle.leaf_integers.specs.Integers.{least, most, inside, pick, ranged, exact, is_zero}
use Rattle.leaf_integers.specs.declared.Fault.{Fault}
use Rattle.leaf_integers.specs.declared.Fault.TheVariants.{Overflow}
use Rattle.leaf_integers.specs.Integers.{Num}
use Rattle.std.specs.Prelude.{Ok, Err}

-- z is an integer of the language: `mag` is n both of n and of -(n + 1)
abbrev pub Narrow : ℤ → Type 0
Narrow z = mag z < 2147483648

-- ---- the test

pub inside-from : (lo hi z : ℤ) → le_z lo z ≡ true → inside lo hi z ≡ le_z z hi
unfolding inside
inside-from lo hi z h = ap (λ t. t && le_z z hi) h

pub inside_both : (lo hi z : ℤ) → le_z lo z ≡ true → le_z z hi ≡ true → inside lo hi z ≡ true
inside_both lo hi z h k = inside-from lo hi z h ∙ k

pub inside-below : (lo hi z : ℤ) → le_z lo z ≡ false → inside lo hi z ≡ false
unfolding inside
inside-below lo hi z h = ap (λ t. t && le_z z hi) h

pub inside-above : (lo hi z : ℤ) → le_z z hi ≡ false → inside lo hi z ≡ false
unfolding inside
inside-above lo hi z h = ap (◌&&◌ (le_z lo z)) h ∙ and-false (le_z lo z)

pub inside_is : (lo hi z : ℤ) → inside lo hi z ≡ true → (le_z lo z ≡ true) × (le_z z hi ≡ true)
unfolding inside
inside_is lo hi z h = (and-eq-true_iff (le_z lo z) (le_z z hi)).0 h

-- -(n + 1) to n, and -(n + 1) to n + 1
pub inside-mag : (n : ℕ) (z : ℤ) → inside (negsuc n) (pos n) z ≡ leb (mag z) n
unfolding inside
inside-mag n (pos a) = refl
inside-mag n (negsuc a) = and-true (leb a n)

pub inside-abs : (n : ℕ) (z : ℤ) → inside (negsuc n) (pos (suc n)) z ≡ leb (nat_abs z) (suc n)
unfolding inside
inside-abs n (pos a) = refl
inside-abs n (negsuc a) = and-true (leb a n) ∙ sym (leb-suc-suc a n)

-- ---- the answers

pub value-fault : {z : ℤ} {f : Fault} → Ok z ≡ Err f → ⊥
value-fault e = let z : ◌≡◌ {A = ℕ} 0 1 = cc in omega arith

pub same-value : {z v : ℤ} → ◌≡◌ {A = Num} (Ok z) (Ok v) → z ≡ v
same-value e = cc

pub pick_yes : (t : Bool) (a b : Num) → t ≡ true → pick t a b ≡ a
unfolding pick
pick_yes t a b h = rw h

pub pick_no : (t : Bool) (a b : Num) → t ≡ false → pick t a b ≡ b
unfolding pick
pick_no t a b h = rw h

-- where the first answer is a fault, a value is the second one
pub pick-value : (t : Bool) (a : Num) (f : Fault) (v : ℤ) → pick t (Err f) a ≡ Ok v → (t ≡ false) × (a ≡ Ok v)
unfolding pick
pick-value true a f v h = absurd (value-fault (sym h))
pick-value false a f v h = (refl, h)

pub ranged-in : (f : Fault) (lo hi z : ℤ) → inside lo hi z ≡ true → ranged f lo hi z ≡ Ok z
unfolding ranged pick
ranged-in f lo hi z h = rw h

pub ranged-out : (f : Fault) (lo hi z : ℤ) → inside lo hi z ≡ false → ranged f lo hi z ≡ Err f
unfolding ranged pick
ranged-out f lo hi z h = rw h

pub ranged-value : (f : Fault) (lo hi z v : ℤ) → ranged f lo hi z ≡ Ok v → (inside lo hi v ≡ true) × (z ≡ v)
unfolding ranged pick
ranged-value f lo hi z v h = of (inside lo hi z) refl h
  where
    of : (t : Bool) → inside lo hi z ≡ t → pick t (Ok z) (Err f) ≡ Ok v → (inside lo hi v ≡ true) × (z ≡ v)
    of true e k = let same : z ≡ v = cc in (rw same at e, same)
    of false e k = absurd (value-fault (sym k))

pub ranged-fault : (f g : Fault) (lo hi z : ℤ) → ranged f lo hi z ≡ Err g → (inside lo hi z ≡ false) × (f ≡ g)
unfolding ranged pick
ranged-fault f g lo hi z h = of (inside lo hi z) refl h
  where
    of : (t : Bool) → inside lo hi z ≡ t → pick t (Ok z) (Err f) ≡ Err g → (inside lo hi z ≡ false) × (f ≡ g)
    of true e k = absurd (value-fault k)
    of false e k = (e, (cc))

pub exact-inside : (z : ℤ) → inside least most z ≡ true → exact z ≡ Ok z
unfolding exact
exact-inside z h = ranged-in Overflow least most z h

pub exact-outside : (z : ℤ) → inside least most z ≡ false → exact z ≡ Err Overflow
unfolding exact
exact-outside z h = ranged-out Overflow least most z h

pub exact-in : (z : ℤ) → Narrow z → exact z ≡ Ok z
exact-in z h = exact-inside z (inside-mag 2147483647 z ∙ le-leb (mag z) 2147483647 (omega arith))

pub exact-out : (z : ℤ) → 2147483648 ≤ mag z → exact z ≡ Err Overflow
exact-out z h = exact-outside z (inside-mag 2147483647 z ∙ lt-leb (mag z) 2147483647 (omega arith))

-- a value is in range and the number itself
pub exact-value : (z v : ℤ) → exact z ≡ Ok v → (inside least most v ≡ true) × (z ≡ v)
unfolding exact
exact-value z v h = ranged-value Overflow least most z v h

pub exact-narrow : (z v : ℤ) → exact z ≡ Ok v → Narrow v × (z ≡ v)
exact-narrow z v h =
    let w = exact-value z v h in (omega (arith, leb-true (mag v) 2147483647 (sym (inside-mag 2147483647 v) ∙ w.0)), w.1)

pub exact-fault : (z : ℤ) (f : Fault) → exact z ≡ Err f → (2147483648 ≤ mag z) × (Overflow ≡ f)
unfolding exact
exact-fault z f h =
    let w = ranged-fault Overflow f least most z h in
    (omega (arith, leb-false (mag z) 2147483647 (sym (inside-mag 2147483647 z) ∙ w.0)), w.1)

-- ---- the test for 0

pub is-zero : (z : ℤ) → z ≡ pos 0 → is_zero z ≡ true
unfolding is_zero
is-zero z h = rw h

pub not-zero : (z : ℤ) → (z ≡ pos 0 → ⊥) → is_zero z ≡ false
unfolding is_zero
not-zero (pos n) h = ne_eqb n 0 (λ e. h (ap pos e))
not-zero (negsuc n) h = refl
