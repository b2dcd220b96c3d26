-- What operators give lies in the range of values again, and a word is decoded to the result that it is of.
use Rattle.std.proofs.Common.{◌≡◌, ℕ, zero, suc, ◌-◌, ◌<◌, ◌≤◌, Bool, true, false, not, ◌&&◌, ◌||◌, List, length, ℤ, pos, negsuc, ◌+ℤ◌, ◌-ℤ◌, ◌*ℤ◌, neg_ℤ, nat_abs, sym, refl, ap, ◌∙◌, subst, true≢false, arith, le-ltb, lt-ltb, le-leb, leb-true}
use lib.Signed.{le_z, lt_z}
use Rattle.leaf_integers.specs.Integers.{inside, least, most, exact, quotient, modulus, next, previous, is_odd}
use Rattle.leaf_powers.specs.Powers.{power}
use Rattle.leaf_integers.specs.declared.Fault.TheVariants.{Overflow, Divisor, Exponent, Bound}
use Rattle.leaf_integers.specs.Integers.{Num}
use Rattle.std.specs.Prelude.{Ok, Err}
use Rattle.leaf_integers.proofs.Order.{le_z-trans, add_low, le_not}
use Rattle.leaf_integers.proofs.Ranges.{inside_is, inside_both, exact-value}
use Rattle.leaf_integers.proofs.Division.{quotient-value, modulus-value}
use Rattle.leaf_powers.proofs.Powers.{power-value}
use Rattle.leaf_integers.proofs.RangeTests.{next-value, previous-value}
use Rattle.leaf_sets.specs.Sets.{members_of, pattern_of, those, value_of, holds, least as least_of, greatest as greatest_of, union_of, difference_of, intersection_of, within}
use Rattle.std.specs.Prelude.{Option}
use Rattle.std.specs.Prelude.{Some, None}
use Rattle.leaf_sets.proofs.Digits.{value-lt, members-length}
use Rattle.leaf_sets.proofs.Base.{least_lt, greatest-lt}
use Rattle.law.specs.Base.{pick}
use Rattle.law.specs.Calculate.{nat_of, Result, is, fails, stuck, ◌>>=◌, integer, exception_of, member_in, truth, is_true, equal_z, set_value, compute, compute1}
use Rattle.law.specs.Machine.{sole, one_cell}
use Rattle.law.specs.Operators.{Operation, int_add, int_sub, int_mul, int_power, int_div, int_mod, set_union, set_difference, set_intersection, num_equal, num_unequal, num_less, num_at_most, num_greater, num_at_least, set_within, set_holds, member_of, bool_and, bool_or, Operation1, int_negate, bool_not, int_abs, int_sqr, int_odd, ordinal_of, pred_in, succ_in, set_card, set_least, set_greatest}
use Rattle.code.specs.Readback.{operations1, operation1_at}
use Rattle.code_calc.specs.Words.{lowest, no_result, greatest, fault_base, word_of, result_of, applied, applied1, InRange, Exceptional, Ranged, Means, first}

-- ---- the range
pub wide : (z : ℤ) → inside least most z ≡ true → InRange z
unfolding InRange
wide z h =
    inside_both lowest greatest z (le_z-trans lowest least z refl (inside_is least most z h).0)
    (le_z-trans z most greatest (inside_is least most z h).1 refl)

pub low-range : (n : ℕ) → n ≤ 4294967295 → InRange (pos n)
unfolding InRange
low-range n h = inside_both lowest greatest (pos n) refl (le-leb n 9218868437227405311 (omega arith))

pub range-value : (z : ℤ) → InRange z → lt_z greatest z ≡ false
unfolding InRange
range-value z h = le_not z greatest (inside_is lowest greatest z h).1

num-ranged : (n : Num) → ((v : ℤ) → n ≡ Ok v → InRange v) → Ranged (integer n)
unfolding Ranged Exceptional inside integer exception_of
num-ranged (Ok z) h = h z refl
num-ranged (Err Overflow) h = refl
num-ranged (Err Divisor) h = refl
num-ranged (Err Exponent) h = refl
num-ranged (Err Bound) h = refl

exact-ranged : (z : ℤ) → Ranged (integer (exact z))
exact-ranged z = num-ranged (exact z) (λ v e. wide v (exact-value z v e).0)

truth-ranged : (b : Bool) → InRange (truth b)
unfolding InRange truth inside
truth-ranged true = refl
truth-ranged false = refl

those-ranged : (f : ℕ → Bool) → InRange (set_value (those f 0 32))
unfolding set_value
those-ranged f = low-range (value_of (those f 0 32)) (omega (arith, value-lt f))

mod-range : (i j v : ℤ) → InRange j → modulus i j ≡ Ok v → InRange v
unfolding InRange
mod-range i j v h e =
    let w = inside_is (pos 0) (j -ℤ pos 1) v (modulus-value i j v e) in
    inside_both lowest greatest v (le_z-trans lowest (pos 0) v refl w.0)
    (le_z-trans v (j -ℤ pos 1) greatest w.1 (le_z-trans (j -ℤ pos 1) j greatest (add_low j (negsuc 0) refl) (inside_is lowest greatest j h).1))

member-ranged : (m : Option ℕ) → ((x : ℕ) → m ≡ Some x → x < 32) → Ranged (member_in m)
unfolding Ranged Exceptional inside member_in
member-ranged (Some i) h = low-range i (omega (arith, h i refl))
member-ranged None h = refl

card-small : (a : ℤ) → length (members_of a) ≤ 4294967295
unfolding members_of
card-small a = omega (arith, members-length (pattern_of a))

-- ---- operators
pub compute-ranged : (c : Operation) (a b : ℤ) → InRange a → InRange b → Ranged (compute c a b)
unfolding compute Ranged union_of difference_of intersection_of
compute-ranged int_add a b p q = exact-ranged (a +ℤ b)
compute-ranged int_sub a b p q = exact-ranged (a -ℤ b)
compute-ranged int_mul a b p q = exact-ranged (a *ℤ b)
compute-ranged int_power a b p q = num-ranged (power a b) (λ v e. wide v (power-value a b v e).0)
compute-ranged int_div a b p q = num-ranged (quotient a b) (λ v e. wide v (quotient-value a b v e).0)
compute-ranged int_mod a b p q = num-ranged (modulus a b) (λ v e. mod-range a b v q e)
compute-ranged set_union a b p q = those-ranged _
compute-ranged set_difference a b p q = those-ranged _
compute-ranged set_intersection a b p q = those-ranged _
compute-ranged num_equal a b p q = truth-ranged (equal_z a b)
compute-ranged num_unequal a b p q = truth-ranged (not (equal_z a b))
compute-ranged num_less a b p q = truth-ranged (lt_z a b)
compute-ranged num_at_most a b p q = truth-ranged (le_z a b)
compute-ranged num_greater a b p q = truth-ranged (lt_z b a)
compute-ranged num_at_least a b p q = truth-ranged (le_z b a)
compute-ranged set_within a b p q = truth-ranged (within (members_of a) (members_of b))
compute-ranged set_holds a b p q = truth-ranged (within (members_of b) (members_of a))
compute-ranged member_of a b p q = truth-ranged (holds a (members_of b))
compute-ranged bool_and a b p q = truth-ranged (is_true a && is_true b)
compute-ranged bool_or a b p q = truth-ranged (is_true a || is_true b)

-- bounds are integers of 32 bits
abbrev pub Bounded : Operation1 → Type 0
Bounded int_negate = Unit {0}
Bounded bool_not = Unit {0}
Bounded int_abs = Unit {0}
Bounded int_sqr = Unit {0}
Bounded int_odd = Unit {0}
Bounded ordinal_of = Unit {0}
Bounded (pred_in lo hi) = (inside least most lo ≡ true) × (inside least most hi ≡ true)
Bounded (succ_in lo hi) = (inside least most lo ≡ true) × (inside least most hi ≡ true)
Bounded set_card = Unit {0}
Bounded set_least = Unit {0}
Bounded set_greatest = Unit {0}

between : (lo hi v : ℤ) → (inside least most lo ≡ true) × (inside least most hi ≡ true) → inside lo hi v ≡ true → InRange v
between lo hi v h e =
    wide v (inside_both least most v (le_z-trans least lo v (inside_is least most lo h.0).0 (inside_is lo hi v e).0)
    (le_z-trans v hi most (inside_is lo hi v e).1 (inside_is least most hi h.1).1))

pub compute1-ranged : (c : Operation1) (a : ℤ) → Bounded c → InRange a → Ranged (compute1 c a)
unfolding compute1 Ranged
compute1-ranged int_negate a b p = exact-ranged (neg_ℤ a)
compute1-ranged bool_not a b p = truth-ranged (not (is_true a))
compute1-ranged int_abs a b p = exact-ranged (pos (nat_abs a))
compute1-ranged int_sqr a b p = exact-ranged (a *ℤ a)
compute1-ranged int_odd a b p = truth-ranged (is_odd a)
compute1-ranged ordinal_of a b p = p
compute1-ranged (pred_in lo hi) a b p = num-ranged (previous lo hi a) (λ v e. between lo hi v b (previous-value lo hi a v e).0)
compute1-ranged (succ_in lo hi) a b p = num-ranged (next lo hi a) (λ v e. between lo hi v b (next-value lo hi a v e).0)
compute1-ranged set_card a b p = low-range (length (members_of a)) (card-small a)
compute1-ranged set_least a b p = member-ranged (least_of (members_of a)) (λ x e. least_lt a x e)
compute1-ranged set_greatest a b p = member-ranged (greatest_of (members_of a)) (λ x e. greatest-lt a x e)

pub plain : (k : ℕ) → Bounded (operation1_at k)
unfolding operation1_at operations1
plain zero = tt
plain (suc zero) = tt
plain (suc (suc zero)) = tt
plain (suc (suc (suc zero))) = tt
plain (suc (suc (suc (suc zero)))) = tt
plain (suc (suc (suc (suc (suc zero))))) = tt
plain (suc (suc (suc (suc (suc (suc zero)))))) = tt
plain (suc (suc (suc (suc (suc (suc (suc zero))))))) = tt
plain (suc (suc (suc (suc (suc (suc (suc (suc zero)))))))) = tt
plain (suc (suc (suc (suc (suc (suc (suc (suc (suc k))))))))) = tt

-- ---- words
-- an exception's word, and that it is one
negative : (e : ℤ) → Exceptional e → (k : ℕ) × ((e ≡ negsuc k) × ((100 ≤ k) × (k ≤ 998)))
unfolding Exceptional
negative (pos n) h = absurd (true≢false (sym (inside_is (negsuc 998) (negsuc 100) (pos n) h).1))
negative (negsuc k) h =
    let q = inside_is (negsuc 998) (negsuc 100) (negsuc k) h in
    (k, (refl, (leb-true 100 k q.1, leb-true k 998 q.0)))

based : (k : ℕ) → k ≤ 998 → negsuc k +ℤ fault_base ≡ pos (9223372036854775807 - suc k)
based k h = rw (le-ltb 9223372036854775807 (suc k) (omega arith))

pub above-fault : (e : ℤ) → Exceptional e → true ≡ lt_z greatest (e +ℤ fault_base)
above-fault e h = let n = negative e h in rw (n.1.0, based n.0 n.1.1.1) (sym (lt-ltb 9218868437227405311 (9223372036854775807 - suc n.0) (omega (arith, n.1.1.1))))

pub back-fault : (e : ℤ) → Exceptional e → (e +ℤ fault_base) -ℤ fault_base ≡ e
back-fault e h = let n = negative e h in rw (n.1.0, based n.0 n.1.1.1, lt-ltb (9223372036854775807 - suc n.0) 9223372036854775807 (omega (arith, n.1.1.1))) (ap negsuc (omega (arith, n.1.1.1)))

pub not_stuck : (e : ℤ) → Exceptional e → (e +ℤ fault_base) ≡ no_result → ⊥
not_stuck e h g =
    let n = negative e h in
    let q : ◌≡◌ {A = ℕ} (9223372036854775807 - suc n.0) 9223372036854775807 = ap nat_of (sym (based n.0 n.1.1.1) ∙ ap (λ (x : ℤ). x +ℤ fault_base) (sym n.1.0) ∙ g) in
    omega (arith, n.1.1.1)

pub small-fault : (e : ℤ) → Exceptional e → InRange e
unfolding Exceptional
small-fault e h = let q = inside_is (negsuc 998) (negsuc 100) e h in wide e (inside_both least most e (le_z-trans least (negsuc 998) e refl q.0) (le_z-trans e (negsuc 100) most q.1 refl))

pub fault-result : (e : ℤ) → Ranged (fails e) → result_of (e +ℤ fault_base) ≡ fails e
unfolding result_of pick Ranged
fault-result e h = rw (sym (above-fault e h), back-fault e h)

value-result : (z : ℤ) → InRange z → result_of z ≡ is z
unfolding result_of pick
value-result z h = rw (range-value z h)

word-result : (v : Result ℤ) → Ranged v → result_of (word_of v) ≡ v
unfolding word_of Ranged
word-result (is z) h = value-result z h
word-result (fails e) h = fault-result e h
word-result stuck h = absurd h

pub decoded : (r : ℤ) (v : Result ℤ) → Means r v → result_of r ≡ v
decoded r v h = ap result_of h.word ∙ word-result v h.ranged

bind-ranged : (v : Result ℤ) (f : ℤ → Result ℤ) → Ranged v → ((z : ℤ) → InRange z → Ranged (f z)) → Ranged (v >>= f)
unfolding Ranged
bind-ranged (is z) f h k = k z h
bind-ranged (fails e) f h k = h
bind-ranged stuck f h k = absurd h

one-first : (u : Result ℤ) → u ≡ first (one_cell u)
one-first (is z) = refl
one-first (fails e) = refl
one-first stuck = refl

join2 : (f : ℤ → ℤ → Result ℤ) (v w : Result (List ℤ)) → (first v >>= λ a. first w >>= λ b. f a b) ≡ first (v >>= λ a. w >>= λ b. one_cell (f (sole a) (sole b)))
join2 f (is a) (is b) = one-first (f (sole a) (sole b))
join2 f (is a) (fails e) = refl
join2 f (is a) stuck = refl
join2 f (fails e) w = refl
join2 f stuck w = refl

join1 : (f : ℤ → Result ℤ) (v : Result (List ℤ)) → (first v >>= λ a. f a) ≡ first (v >>= λ a. one_cell (f (sole a)))
join1 f (is a) = one-first (f (sole a))
join1 f (fails e) = refl
join1 f stuck = refl

pub binary-means : (c : Operation) (x y z : ℤ) (v w : Result (List ℤ)) → Means x (first v) → Means y (first w) → z ≡ applied c x y
    → Means z (first (v >>= λ a. w >>= λ b. one_cell (compute c (sole a) (sole b))))
unfolding applied
binary-means c x y z v w h k e =
    subst (λ (u : Result ℤ). Means z u) (join2 (λ a b. compute c a b) v w)
    (record {
      word = e ∙ rw (decoded x (first v) h, decoded y (first w) k);
      ranged = bind-ranged (first v) (λ a. first w >>= λ b. compute c a b) h.ranged (λ a p. bind-ranged (first w) (λ b. compute c a b) k.ranged (λ b q. compute-ranged c a b p q));
    })

pub unary-means : (c : Operation1) (x z : ℤ) (v : Result (List ℤ)) → Bounded c → Means x (first v) → z ≡ applied1 c x → Means z (first (v >>= λ a. one_cell (compute1 c (sole a))))
unfolding applied1
unary-means c x z v b h e =
    subst (λ (u : Result ℤ). Means z u) (join1 (λ a. compute1 c a) v)
    (record { word = e ∙ rw (decoded x (first v) h); ranged = bind-ranged (first v) (λ a. compute1 c a) h.ranged (λ a p. compute1-ranged c a b p) })

-- a fault is passed on
pub fault-means : (x : ℤ) (v : Result (List ℤ)) (f : List ℤ → Result (List ℤ)) → lt_z greatest x ≡ true → Means x (first v) → Means x (first (v >>= f))
unfolding Ranged word_of
fault-means x (is a) f h k = absurd (true≢false (sym h ∙ ap (lt_z greatest) k.word ∙ range-value (sole a) k.ranged))
fault-means x (fails e) f h k = record { word = k.word; ranged = k.ranged }
fault-means x stuck f h k = absurd k.ranged

-- a value is there
pub value-means : (x : ℤ) (v : Result (List ℤ)) → lt_z greatest x ≡ false → Means x (first v) → (zs : List ℤ) × ((v ≡ is zs) × (sole zs ≡ x))
unfolding Ranged word_of
value-means x (is a) h k = (a, (refl, sym k.word))
value-means x (fails e) h k = absurd (true≢false (above-fault e k.ranged ∙ sym (ap (lt_z greatest) k.word) ∙ h))
value-means x stuck h k = absurd k.ranged
