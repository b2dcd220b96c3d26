-- Keys: they fit an i64, and labels in the integers are the same where their keys are.
use mathlib.Core.Path.{◌≡◌, refl, sym, ap, ◌∙◌, subst}
use mathlib.Core.Bool.{Bool, true, false, cond, not, ◌&&◌, ◌||◌, false≢true}
use mathlib.Core.List.{List, [], ◌∷◌}
use Prim.Native.Nat.{ℕ, zero, suc, ◌+◌, ◌-◌, ◌*◌, ◌<◌, ◌≤◌}
use native.Mathlib.Omega.{arith}
use borrow.Author.Tests.{eq-eqb, eqb-true, leb-true, lt-ltb, le-ltb, ltb-true, ltb-false}
use lib.Dec.{eqb, ltb}
use lib.IntN.{ℤ, pos, negsuc, neg_ℤ, nat_abs, sub_ℕ, ◌+ℤ◌, ◌-ℤ◌, ◌*ℤ◌, +ℤ_assoc, +ℤ_comm, -ℤ-+ℤ_cancel}
use lib.Signed.{mag}
use mir.Val.{SFits, to_z}
use mir.Facts.{to_z-of_z}
use mir.Syntax.{w64}
use Rattle.leaf_integers.specs.Integers.{least, most, inside}
use Rattle.leaf_integers.proofs.Machine.{wire, fits-mag}
use Rattle.leaf_integers.proofs.Ranges.{Narrow, inside-mag}
use Rattle.law.specs.Calculate.{equal_z}
use Rattle.law.specs.Rules.{plain, all_plain, same_const, labelled, differ}
use Rattle.law.specs.Script.{Const}
use Rattle.law_theorems.proofs.Inversion.{and-true, and-both}
use Rattle.rule_labels.specs.Blocks.{among, apart}
use Rattle.rule_labels.proofs.Telling.{equal-self, equal_is, wide_is}
use Rattle.rule_labels.specs.Keys.{key_by}
use Rattle.rule_labels.specs.Numbers.{numbers_of}
use Rattle.rule_labels.specs.declared.By.TheVariants as by

-- ---- the number of a kind and a value

-- the place of an integer among all of them
abbrev pub place_of : ℤ → ℕ
place_of (pos n) = n + 2147483648
place_of (negsuc n) = 2147483647 - n

pub placed : (z : ℤ) → Narrow z → z +ℤ pos 2147483648 ≡ pos (place_of z)
placed (pos n) h = refl
placed (negsuc n) h =
    let i : 2147483648 - suc n ≡ 2147483647 - n = omega arith in
    ap (λ (t : Bool). cond t (negsuc (suc n - suc 2147483648)) (pos (2147483648 - suc n))) (le-ltb 2147483648 (suc n) (omega arith)) ∙ ap pos i

place-small : (z : ℤ) → Narrow z → place_of z < 4294967296
place-small (pos n) h = omega arith
place-small (negsuc n) h = omega arith

place-one : (y z : ℤ) → Narrow y → Narrow z → place_of y ≡ place_of z → y ≡ z
place-one (pos m) (pos n) h k e = let i : m ≡ n = omega arith in ap pos i
place-one (pos m) (negsuc n) h k e = absurd (omega arith)
place-one (negsuc m) (pos n) h k e = absurd (omega arith)
place-one (negsuc m) (negsuc n) h k e = let i : m ≡ n = omega arith in ap negsuc i

neg-pos : (m : ℕ) → 0 < m → neg_ℤ (pos m) ≡ negsuc (m - 1)
neg-pos zero h = absurd (omega arith)
neg-pos (suc m) h = let i : m ≡ suc m - 1 = omega arith in ap negsuc i

-- where the numbers of a kind begin
pub begun : (k : ℕ) → (pos k -ℤ pos 2147483648) *ℤ pos 4294967296 ≡ pos (k * 4294967296) -ℤ pos 9223372036854775808
begun k = go (ltb k 2147483648) refl
  where
    go : (t : Bool) → ltb k 2147483648 ≡ t → cond t (negsuc (2147483648 - suc k)) (pos (k - 2147483648)) *ℤ pos 4294967296 ≡ sub_ℕ (k * 4294967296) 9223372036854775808
    go true e =
        let h : k < 2147483648 = ltb-true k 2147483648 e in
        let i : suc (2147483648 - suc k) * 4294967296 - 1 ≡ 9223372036854775808 - suc (k * 4294967296) = omega arith in
        neg-pos (suc (2147483648 - suc k) * 4294967296) (omega arith) ∙ ap negsuc i
        ∙ sym (ap (λ (t : Bool). cond t (negsuc (9223372036854775808 - suc (k * 4294967296))) (pos (k * 4294967296 - 9223372036854775808))) (lt-ltb (k * 4294967296) 9223372036854775808 (omega arith)))
    go false e =
        let h : 2147483648 ≤ k = ltb-false k 2147483648 e in
        let i : (k - 2147483648) * 4294967296 ≡ k * 4294967296 - 9223372036854775808 = omega arith in
        ap pos i
        ∙ sym (ap (λ (t : Bool). cond t (negsuc (9223372036854775808 - suc (k * 4294967296))) (pos (k * 4294967296 - 9223372036854775808))) (le-ltb (k * 4294967296) 9223372036854775808 (omega arith)))

moved : (a u : ℕ) (c : ℤ) → (pos a +ℤ c) +ℤ pos u ≡ pos (a + u) +ℤ c
moved a u c = +ℤ_assoc (pos a) c (pos u) ∙ ap (λ (z : ℤ). pos a +ℤ z) (+ℤ_comm c (pos u)) ∙ sym (+ℤ_assoc (pos a) (pos u) c)

pub numbered : (k : ℕ) (z : ℤ) → Narrow z → (pos k -ℤ pos 2147483648) *ℤ pos 4294967296 +ℤ (z +ℤ pos 2147483648) ≡ pos (k * 4294967296 + place_of z) -ℤ pos 9223372036854775808
numbered k z h =
    ap (λ (x : ℤ). (pos k -ℤ pos 2147483648) *ℤ pos 4294967296 +ℤ x) (placed z h)
    ∙ ap (λ (x : ℤ). x +ℤ pos (place_of z)) (begun k)
    ∙ moved (k * 4294967296) (place_of z) (negsuc 9223372036854775807)

-- ---- it fits

pub narrow : (z : ℤ) → inside least most z ≡ true → Narrow z
narrow z h = omega (arith, leb-true (mag z) 2147483647 (sym (inside-mag 2147483647 z) ∙ h))

below-fits : (n : ℕ) → n < 18446744073709551616 → SFits w64 (pos n -ℤ pos 9223372036854775808)
below-fits n h = fits-mag (pos n -ℤ pos 9223372036854775808) (go (ltb n 9223372036854775808))
  where
    go : (t : Bool) → mag (cond t (negsuc (9223372036854775808 - suc n)) (pos (n - 9223372036854775808))) < 9223372036854775808
    go true = omega arith
    go false = omega arith

pub kind_fits : (k : ℕ) → k < 4294967296 → SFits w64 (pos k -ℤ pos 2147483648)
kind_fits k h = fits-mag (pos k -ℤ pos 2147483648) (go (ltb k 2147483648))
  where
    go : (t : Bool) → mag (cond t (negsuc (2147483648 - suc k)) (pos (k - 2147483648))) < 9223372036854775808
    go true = omega arith
    go false = omega arith

pub begin-fits : (k : ℕ) → k < 4294967296 → SFits w64 ((pos k -ℤ pos 2147483648) *ℤ pos 4294967296)
begin-fits k h = rw (begun k) (below-fits (k * 4294967296) (omega arith))

pub place-fits : (z : ℤ) → Narrow z → SFits w64 (z +ℤ pos 2147483648)
place-fits z h = rw (placed z h) (fits-mag (pos (place_of z)) (omega (arith, place-small z h)))

pub number_fits : (k : ℕ) (z : ℤ) → k < 4294967296 → Narrow z → SFits w64 ((pos k -ℤ pos 2147483648) *ℤ pos 4294967296 +ℤ (z +ℤ pos 2147483648))
number_fits k z h i = rw (numbered k z i) (below-fits (k * 4294967296 + place_of z) (omega (arith, place-small z i)))

-- ---- one number for one kind and one value

pub key-in : (k : ℕ) (z : ℤ) → inside least most z ≡ true → key_by k z ≡ (pos k -ℤ pos 2147483648) *ℤ pos 4294967296 +ℤ (z +ℤ pos 2147483648)
unfolding key_by
key-in k z h = ap (λ (t : Bool). cond t ((pos k -ℤ pos 2147483648) *ℤ pos 4294967296 +ℤ (z +ℤ pos 2147483648)) (pos 0)) h

pub key-out : (k : ℕ) (z : ℤ) → inside least most z ≡ false → key_by k z ≡ pos 0
unfolding key_by
key-out k z h = ap (λ (t : Bool). cond t ((pos k -ℤ pos 2147483648) *ℤ pos 4294967296 +ℤ (z +ℤ pos 2147483648)) (pos 0)) h

less_one : (m n : ℕ) (c : ℤ) → pos m -ℤ c ≡ pos n -ℤ c → m ≡ n
less_one m n c e = ap nat_abs (sym (-ℤ-+ℤ_cancel (pos m) c) ∙ ap (λ (z : ℤ). z +ℤ c) e ∙ -ℤ-+ℤ_cancel (pos n) c)

module _ (j k : ℕ) (y z : ℤ) (p : inside least most y ≡ true) (q : inside least most z ≡ true) (e : key_by j y ≡ key_by k z) where
  one_number : j * 4294967296 + place_of y ≡ k * 4294967296 + place_of z
  one_number =
      less_one (j * 4294967296 + place_of y) (k * 4294967296 + place_of z) (pos 9223372036854775808)
      (sym (key-in j y p ∙ numbered j y (narrow y p)) ∙ e ∙ key-in k z q ∙ numbered k z (narrow z q))

  one-kind : j ≡ k
  one-kind = let m = place-small y (narrow y p) in let n = place-small z (narrow z q) in let i = one_number in omega arith

  one_value : y ≡ z
  one_value = let i = one_number in let h = one-kind in place-one y z (narrow y p) (narrow z q) (omega arith)

both_ways : (a b : Bool) → (a ≡ true → b ≡ true) → (b ≡ true → a ≡ true) → a ≡ b
both_ways true b f g = sym (f refl)
both_ways false true f g = absurd (false≢true (g refl))
both_ways false false f g = refl

same_key : (x y : Const) → plain x ≡ true → plain y ≡ true → same_const x y ≡ equal_z (key_by x.kind x.value) (key_by y.kind y.value)
unfolding plain
same_key x y p q = both_ways (same_const x y) (equal_z (key_by x.kind x.value) (key_by y.kind y.value)) to from
  where
    to : same_const x y ≡ true → equal_z (key_by x.kind x.value) (key_by y.kind y.value) ≡ true
    to h =
        let g = and-true (eqb x.kind y.kind) (equal_z x.value y.value) h in
        let i : x.kind ≡ y.kind = eqb-true x.kind y.kind g.0 in
        let j : x.value ≡ y.value = equal_is x.value y.value g.1 in
        let e : key_by x.kind x.value ≡ key_by y.kind y.value = ap (λ (k : ℕ). key_by k x.value) i ∙ ap (λ (z : ℤ). key_by y.kind z) j in
        rw e (equal-self (key_by y.kind y.value))

    from : equal_z (key_by x.kind x.value) (key_by y.kind y.value) ≡ true → same_const x y ≡ true
    from h =
        let e = equal_is (key_by x.kind x.value) (key_by y.kind y.value) h in
        let j : x.value ≡ y.value = one_value x.kind y.kind x.value y.value p q e in
        and-both (eqb x.kind y.kind) (equal_z x.value y.value) (eq-eqb x.kind y.kind (one-kind x.kind y.kind x.value y.value p q e))
        (rw j (equal-self y.value))

-- ---- labels and their keys

labelled-among : (x : Const) (xs : List Const) → plain x ≡ true → all_plain xs ≡ true → labelled x xs ≡ among (key_by x.kind x.value) (numbers_of by.Key xs)
unfolding all_plain labelled among numbers_of
labelled-among x [] p h = refl
labelled-among x (y ∷ ys) p h =
    let g = and-true (plain y) (all_plain ys) h in
    ap (λ (t : Bool). t || labelled x ys) (same_key x y p g.0) ∙ ap (λ (t : Bool). equal_z (key_by x.kind x.value) (key_by y.kind y.value) || t) (labelled-among x ys p g.1)

pub differ-apart : (xs : List Const) → all_plain xs ≡ true → differ xs ≡ apart (numbers_of by.Key xs)
unfolding all_plain differ apart numbers_of
differ-apart [] h = refl
differ-apart (x ∷ xs) h =
    let g = and-true (plain x) (all_plain xs) h in
    ap (λ (t : Bool). not t && differ xs) (labelled-among x xs g.0 g.1) ∙ ap (λ (t : Bool). not (among (key_by x.kind x.value) (numbers_of by.Key xs)) && t) (differ-apart xs g.1)

-- ---- the laws of `key`, with each number as its local holds it

module _ (k : ℕ) (h : k < 4294967296) where
  pub kind-less : SFits w64 (to_z w64 k -ℤ pos 2147483648)
  kind-less = subst (λ (x : ℤ). SFits w64 (x -ℤ pos 2147483648)) (sym (wide_is k h)) (kind_fits k h)

  kind-is : wire (to_z w64 k -ℤ pos 2147483648) ≡ pos k -ℤ pos 2147483648
  kind-is = to_z-of_z kind-less ∙ ap (λ (x : ℤ). x -ℤ pos 2147483648) (wide_is k h)

  pub kind-times : SFits w64 (wire (to_z w64 k -ℤ pos 2147483648) *ℤ pos 4294967296)
  kind-times = subst (λ (x : ℤ). SFits w64 (x *ℤ pos 4294967296)) (sym kind-is) (begin-fits k h)

  begin-is : wire (wire (to_z w64 k -ℤ pos 2147483648) *ℤ pos 4294967296) ≡ (pos k -ℤ pos 2147483648) *ℤ pos 4294967296
  begin-is = to_z-of_z kind-times ∙ ap (λ (x : ℤ). x *ℤ pos 4294967296) kind-is

module _ (z : ℤ) (p : SFits w64 z) (t : Bool) (e : t ≡ inside least most (wire z)) where
  within : t ≡ true → inside least most z ≡ true
  within f = ap (inside least most) (sym (to_z-of_z p)) ∙ sym e ∙ f

  pub value-more : t ≡ true → SFits w64 (wire z +ℤ pos 2147483648)
  value-more f = subst (λ (x : ℤ). SFits w64 (x +ℤ pos 2147483648)) (sym (to_z-of_z p)) (place-fits z (narrow z (within f)))

  place_is : t ≡ true → wire (wire z +ℤ pos 2147483648) ≡ z +ℤ pos 2147483648
  place_is f = to_z-of_z (value-more f) ∙ ap (λ (x : ℤ). x +ℤ pos 2147483648) (to_z-of_z p)

  pub key-past : (k : ℕ) → t ≡ false → pos 0 ≡ key_by k z
  key-past k f = sym (key-out k z (ap (inside least most) (sym (to_z-of_z p)) ∙ sym e ∙ f))

  module _ (k : ℕ) (h : k < 4294967296) (f : t ≡ true) where
    sum_is : wire (wire (to_z w64 k -ℤ pos 2147483648) *ℤ pos 4294967296) +ℤ wire (wire z +ℤ pos 2147483648) ≡ (pos k -ℤ pos 2147483648) *ℤ pos 4294967296 +ℤ (z +ℤ pos 2147483648)
    sum_is = ap (λ (x : ℤ). x +ℤ wire (wire z +ℤ pos 2147483648)) (begin-is k h) ∙ ap (λ (x : ℤ). (pos k -ℤ pos 2147483648) *ℤ pos 4294967296 +ℤ x) (place_is f)

    pub key-sum : SFits w64 (wire (wire (to_z w64 k -ℤ pos 2147483648) *ℤ pos 4294967296) +ℤ wire (wire z +ℤ pos 2147483648))
    key-sum = subst (λ (x : ℤ). SFits w64 x) (sym sum_is) (number_fits k z h (narrow z (within f)))

    pub key-within : wire (wire (wire (to_z w64 k -ℤ pos 2147483648) *ℤ pos 4294967296) +ℤ wire (wire z +ℤ pos 2147483648)) ≡ key_by k z
    key-within = to_z-of_z key-sum ∙ sum_is ∙ sym (key-in k z (within f))

pub ruleset key_laws = (kind-less, kind-times, value-more, key-sum, key-past, key-within)
