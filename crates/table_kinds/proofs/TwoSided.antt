-- The code's table against the definition: `ruling2` at the sides of a table of types is what `operator_rule` says.
use mathlib.Core.Path.{◌≡◌, refl, sym, ap, ◌∙◌}
use mathlib.Core.Bool.{Bool, true, false, cond, ◌&&◌, and_self}
use mathlib.Core.List.{List, [], map}
use mathlib.Core.Option.{Option, none, some}
use Prim.Native.Nat.{ℕ, zero, suc, ◌+◌}
use native.Mathlib.Omega.{arith}
use borrow.Author.Tests.{eqb-true, eq-eqb, ne_eqb}
use lib.Dec.{eqb}
use lib.ListN.{get_or}
use Rattle.law.specs.Base.{given, either, pick}
use Rattle.code.specs.Layout.{both, operation_number}
use Rattle.law.specs.Operators.{Op, plus, minus, times, power, divide, modulo, equal, unequal, less, at_most, greater, at_least, member, and_both, or_both, Operation, int_add, int_sub, int_mul, int_power, int_div, int_mod, set_union, set_difference, set_intersection, num_equal, num_unequal, num_less, num_at_most, num_greater, num_at_least, set_within, set_holds, member_of, bool_and, bool_or, Rule, rule, both_integers, both_booleans, same_ordinals, same_sets, operator_rule}
use Rattle.law.specs.Types.{Types, Shape, ordinal_shape, set_shape, array_shape, record_shape, info_at, ordinal?, set?, base_of, is_ordinal, is_set}
use Rattle.law_theorems.proofs.ValuesInRange.{wrong}
use Rattle.table_kinds.specs.Kinds.{TwoSided, strict, lazy, rows, row_number, entry_of, told_of, class_by, class_at, side_of, Kinded, row_of, classes, integer_class, boolean_class, ordinal_class, set_class, integers, booleans, ordinals, sets, operation_of, coded, op_number, table, node_at, partner_of, result_of, numbered, ruling2, told}
use Rattle.table_kinds.specs.declared.Class.{Class}
use Rattle.table_kinds.specs.declared.Class.TheVariants.{Integer, Boolean, Enum, Set, Whole}
use Rattle.table_kinds.specs.Kinds.{Ruling, fits}
use Rattle.std.specs.Prelude.{None}
use Rattle.table_kinds.specs.declared.Ruled.{Ruled}

-- ---- the entry at an operator and two classes

op-at : {B : Type 0} (f : TwoSided → B) (d : B) (o : TwoSided) → get_or (map f rows) (row_number o) d ≡ f o
unfolding op_number
op-at f d (strict plus) = refl
op-at f d (strict minus) = refl
op-at f d (strict times) = refl
op-at f d (strict power) = refl
op-at f d (strict divide) = refl
op-at f d (strict modulo) = refl
op-at f d (strict equal) = refl
op-at f d (strict unequal) = refl
op-at f d (strict less) = refl
op-at f d (strict at_most) = refl
op-at f d (strict greater) = refl
op-at f d (strict at_least) = refl
op-at f d (strict member) = refl
op-at f d (strict and_both) = refl
op-at f d (strict or_both) = refl
op-at f d (lazy true) = refl
op-at f d (lazy false) = refl

pub class-at : {B : Type 0} (f : Class → B) (d : B) (c : Class) → get_or (map f classes) (row_of c) d ≡ f c
unfolding row_of
class-at f d Integer = refl
class-at f d Boolean = refl
class-at f d Enum = refl
class-at f d Set = refl
class-at f d Whole = refl

entry : (o : TwoSided) (a b : Class) → node_at (row_number o) (row_of a) (row_of b) ≡ entry_of o a b
unfolding node_at table
entry o a b =
    ap (λ (m : List (List ℕ)). get_or (get_or m (row_of a) []) (row_of b) 0) (op-at (λ (q : TwoSided). map (λ (x : Class). map (λ (y : Class). entry_of q x y) classes) classes) [] o)
    ∙ ap (λ (m : List ℕ). get_or m (row_of b) 0) (class-at (λ (x : Class). map (λ (y : Class). entry_of o x y) classes) [] a)
    ∙ class-at (λ (y : Class). entry_of o a y) 0 b

-- the kind that the code gives an operation's result
abbrev kind_of : Operation → ℕ → ℕ
kind_of x k = result_of (9 + operation_number x) k

unfoldable ruled : Option Operation → ℕ → Ruling
ruled none k = None
ruled (some x) k = fits (9 + operation_number x) (kind_of x k)

numbered_is : (m : Option Operation) (k : ℕ) → numbered (coded m) k ≡ ruled m k
unfolding numbered coded ruled pick
numbered_is none k = refl
numbered_is (some x) k = rw (ne_eqb (9 + operation_number x) 0 (λ h. omega arith)) refl

-- ---- what a class says of its kind

past-zero : (k : ℕ) → false ≡ eqb 0 (suc k)
past-zero k = sym (ne_eqb 0 (suc k) (λ h. omega arith))

past_one : (k : ℕ) → false ≡ eqb 1 (suc (suc k))
past_one k = sym (ne_eqb 1 (suc (suc k)) (λ h. omega arith))

-- kind 0 and kind 1 are ordinals
pub integer-by : (s : Shape) (k : ℕ) → (k ≡ 0 → is_ordinal s ≡ true) → integer_class (class_by s k) ≡ eqb 0 k
unfolding row_of
integer-by ordinal_shape zero h = refl
integer-by ordinal_shape (suc zero) h = refl
integer-by ordinal_shape (suc (suc k)) h = past-zero (suc k)
integer-by set_shape zero h = wrong (h refl)
integer-by set_shape (suc k) h = past-zero k
integer-by array_shape zero h = wrong (h refl)
integer-by array_shape (suc k) h = past-zero k
integer-by record_shape zero h = wrong (h refl)
integer-by record_shape (suc k) h = past-zero k

pub boolean-by : (s : Shape) (k : ℕ) → (k ≡ 1 → is_ordinal s ≡ true) → boolean_class (class_by s k) ≡ eqb 1 k
unfolding row_of
boolean-by ordinal_shape zero h = refl
boolean-by ordinal_shape (suc zero) h = refl
boolean-by ordinal_shape (suc (suc k)) h = past_one k
boolean-by set_shape zero h = refl
boolean-by set_shape (suc zero) h = wrong (h refl)
boolean-by set_shape (suc (suc k)) h = past_one k
boolean-by array_shape zero h = refl
boolean-by array_shape (suc zero) h = wrong (h refl)
boolean-by array_shape (suc (suc k)) h = past_one k
boolean-by record_shape zero h = refl
boolean-by record_shape (suc zero) h = wrong (h refl)
boolean-by record_shape (suc (suc k)) h = past_one k

pub ordinal-by : (s : Shape) (k : ℕ) → ordinal_class (class_by s k) ≡ is_ordinal s
unfolding row_of
ordinal-by ordinal_shape zero = refl
ordinal-by ordinal_shape (suc zero) = refl
ordinal-by ordinal_shape (suc (suc k)) = refl
ordinal-by set_shape k = refl
ordinal-by array_shape k = refl
ordinal-by record_shape k = refl

pub set-by : (s : Shape) (k : ℕ) → set_class (class_by s k) ≡ is_set s
unfolding row_of
set-by ordinal_shape zero = refl
set-by ordinal_shape (suc zero) = refl
set-by ordinal_shape (suc (suc k)) = refl
set-by set_shape k = refl
set-by array_shape k = refl
set-by record_shape k = refl

-- ---- tests on kinds and tests on classes

and_none : (t : Bool) → (t && false) ≡ false
and_none true = refl
and_none false = refl

same-and : (l r : ℕ) (p q : Bool) → (l ≡ r → p ≡ q) → (eqb l r && p) ≡ (eqb l r && q)
same-and l r p q h = go (eqb l r) refl
  where
    go : (t : Bool) → eqb l r ≡ t → (t && p) ≡ (t && q)
    go true e = h (eqb-true l r e)
    go false e = refl

-- two kinds that are both n are the same
both-same : (n l r : ℕ) → (eqb l r && (eqb n l && eqb n r)) ≡ (eqb n l && eqb n r)
both-same n l r = go (eqb n l) (eqb n r) refl refl
  where
    go : (s t : Bool) → eqb n l ≡ s → eqb n r ≡ t → (eqb l r && (s && t)) ≡ (s && t)
    go true true e f = let i : eqb l r ≡ true = eq-eqb l r (sym (eqb-true n l e) ∙ eqb-true n r f) in rw i refl
    go true false e f = and_none (eqb l r)
    go false t e f = and_none (eqb l r)

-- one test that passes where the kinds agree; two
one_way : (e p P : Bool) (x : Operation) (k : ℕ) → (e && p) ≡ P → pick e (ruled (given p x) k) None ≡ told (given P (rule x (kind_of x k)))
unfolding pick ruled given told
one_way true true P x k h = rw (← h) refl
one_way true false P x k h = rw (← h) refl
one_way false p P x k h = rw (← h) refl

two_ways : (e p q P Q : Bool) (x y : Operation) (k : ℕ) → (e && p) ≡ P → (e && q) ≡ Q
    → pick e (ruled (either (given p x) (given q y)) k) None ≡ told (either (given P (rule x (kind_of x k))) (given Q (rule y (kind_of y k))))
unfolding pick ruled given either told
two_ways true true q P Q x y k g h = rw (← g) refl
two_ways true false true P Q x y k g h = rw (← g, ← h) refl
two_ways true false false P Q x y k g h = rw (← g, ← h) refl
two_ways false p q P Q x y k g h = rw (← g, ← h) refl

short-way : (q e t : Bool) (k : ℕ) → pick e (numbered (cond t (both q) 0) k) None ≡ pick (e && t) (fits (both q) 1) None
unfolding numbered pick result_of both
short-way true true true k = refl
short-way false true true k = refl
short-way q true false k = refl
short-way q false t k = refl

module _ (Γ : Types) (K : Kinded Γ) where
  abbrev class : ℕ → Class
  class k = class_at Γ k

  pub is-integer : (k : ℕ) → integer_class (class k) ≡ eqb 0 k
  is-integer k = integer-by (info_at Γ k).shape k (λ e. rw e K.integers)

  pub is-boolean : (k : ℕ) → boolean_class (class k) ≡ eqb 1 k
  is-boolean k = boolean-by (info_at Γ k).shape k (λ e. rw e K.booleans)

  pub is-ordinal : (k : ℕ) → ordinal_class (class k) ≡ ordinal? Γ k
  is-ordinal k = ordinal-by (info_at Γ k).shape k

  pub is-set : (k : ℕ) → set_class (class k) ≡ set? Γ k
  is-set k = set-by (info_at Γ k).shape k

  module _ (l r : ℕ) where
    two-integers : (eqb l r && integers (class l) (class r)) ≡ both_integers l r
    two-integers = rw (is-integer l, is-integer r) (both-same 0 l r)

    two-booleans : (eqb l r && booleans (class l) (class r)) ≡ both_booleans l r
    two-booleans = rw (is-boolean l, is-boolean r) (both-same 1 l r)

    two-ordinals : (eqb l r && ordinals (class l) (class r)) ≡ same_ordinals Γ l r
    two-ordinals = same-and l r (ordinals (class l) (class r)) (ordinal? Γ l) go
      where
        go : l ≡ r → ordinals (class l) (class r) ≡ ordinal? Γ l
        go e = let i : eqb (row_of (class l)) (row_of (class r)) ≡ true = eq-eqb (row_of (class l)) (row_of (class r)) (ap (λ (k : ℕ). row_of (class k)) e) in rw (i, is-ordinal l) refl

    two-sets : (eqb l r && sets (class l) (class r)) ≡ same_sets Γ l r
    two-sets = same-and l r (sets (class l) (class r)) (set? Γ l) go
      where
        go : l ≡ r → sets (class l) (class r) ≡ set? Γ l
        go e = rw (is-set l, is-set r, ← e) (and_self (set? Γ l))

    one-member : (eqb l (base_of Γ r) && (ordinal_class (class l) && set_class (class r))) ≡ (set? Γ r && eqb l (base_of Γ r))
    one-member = rw (is-ordinal l, is-set r) (go (set? Γ r) (eqb l (base_of Γ r)) refl refl)
      where
        go : (s t : Bool) → set? Γ r ≡ s → eqb l (base_of Γ r) ≡ t → (t && (ordinal? Γ l && s)) ≡ (s && t)
        go true true e f = let i : ordinal? Γ l ≡ true = ap (λ (k : ℕ). ordinal? Γ k) (eqb-true l (base_of Γ r) f) ∙ K.bases r e in rw i refl
        go true false e f = refl
        go false true e f = and_none (ordinal? Γ l)
        go false false e f = refl

    -- the code's answer, with the entry in place of its number
    start : (o : Op) → ruling2 (op_number o) (side_of Γ l) (side_of Γ r) ≡ pick (eqb l (partner_of (op_number o) r (base_of Γ r))) (ruled (operation_of o (class l) (class r)) l) None
    unfolding ruling2 entry_of
    start o = rw (entry (strict o) (class l) (class r), numbered_is (operation_of o (class l) (class r)) l) refl

    -- `and_then` and `or_else`
    short-rule : (q : Bool) → ruling2 (row_number (lazy q)) (side_of Γ l) (side_of Γ r) ≡ told_of Γ (lazy q) l r
    unfolding ruling2 entry_of partner_of
    short-rule true = rw (entry (lazy true) (class l) (class r), ← two-booleans) (short-way true (eqb l r) (booleans (class l) (class r)) l)
    short-rule false = rw (entry (lazy false) (class l) (class r), ← two-booleans) (short-way false (eqb l r) (booleans (class l) (class r)) l)

    -- the five ways of the table
    arithmetic : (x y : Operation) → pick (eqb l r) (ruled (either (given (integers (class l) (class r)) x) (given (sets (class l) (class r)) y)) l) None
        ≡ told (either (given (both_integers l r) (rule x (kind_of x l))) (given (same_sets Γ l r) (rule y (kind_of y l))))
    arithmetic x y = two_ways (eqb l r) (integers (class l) (class r)) (sets (class l) (class r)) (both_integers l r) (same_sets Γ l r) x y l two-integers two-sets

    comparison : (x y : Operation) → pick (eqb l r) (ruled (either (given (ordinals (class l) (class r)) x) (given (sets (class l) (class r)) y)) l) None
        ≡ told (either (given (same_ordinals Γ l r) (rule x (kind_of x l))) (given (same_sets Γ l r) (rule y (kind_of y l))))
    comparison x y = two_ways (eqb l r) (ordinals (class l) (class r)) (sets (class l) (class r)) (same_ordinals Γ l r) (same_sets Γ l r) x y l two-ordinals two-sets

    integer-only : (x : Operation) → pick (eqb l r) (ruled (given (integers (class l) (class r)) x) l) None ≡ told (given (both_integers l r) (rule x (kind_of x l)))
    integer-only x = one_way (eqb l r) (integers (class l) (class r)) (both_integers l r) x l two-integers

    boolean-only : (x : Operation) → pick (eqb l r) (ruled (given (booleans (class l) (class r)) x) l) None ≡ told (given (both_booleans l r) (rule x (kind_of x l)))
    boolean-only x = one_way (eqb l r) (booleans (class l) (class r)) (both_booleans l r) x l two-booleans

    ordinal-only : (x : Operation) → pick (eqb l r) (ruled (given (ordinals (class l) (class r)) x) l) None ≡ told (given (same_ordinals Γ l r) (rule x (kind_of x l)))
    ordinal-only x = one_way (eqb l r) (ordinals (class l) (class r)) (same_ordinals Γ l r) x l two-ordinals

    -- the theorem: the code's answer is the definition's, for every row and any two kinds
    pub two-sided-rule : (o : TwoSided) → ruling2 (row_number o) (side_of Γ l) (side_of Γ r) ≡ told_of Γ o l r
    unfolding operator_rule operation_of partner_of op_number result_of operation_number
    two-sided-rule (strict plus) = start plus ∙ arithmetic int_add set_union
    two-sided-rule (strict minus) = start minus ∙ arithmetic int_sub set_difference
    two-sided-rule (strict times) = start times ∙ arithmetic int_mul set_intersection
    two-sided-rule (strict power) = start power ∙ integer-only int_power
    two-sided-rule (strict divide) = start divide ∙ integer-only int_div
    two-sided-rule (strict modulo) = start modulo ∙ integer-only int_mod
    two-sided-rule (strict equal) = start equal ∙ comparison num_equal num_equal
    two-sided-rule (strict unequal) = start unequal ∙ comparison num_unequal num_unequal
    two-sided-rule (strict less) = start less ∙ ordinal-only num_less
    two-sided-rule (strict at_most) = start at_most ∙ comparison num_at_most set_within
    two-sided-rule (strict greater) = start greater ∙ ordinal-only num_greater
    two-sided-rule (strict at_least) = start at_least ∙ comparison num_at_least set_holds
    two-sided-rule (strict member) =
        start member ∙ one_way (eqb l (base_of Γ r)) (ordinal_class (class l) && set_class (class r)) (set? Γ r && eqb l (base_of Γ r)) member_of l one-member
    two-sided-rule (strict and_both) = start and_both ∙ boolean-only bool_and
    two-sided-rule (strict or_both) = start or_both ∙ boolean-only bool_or
    two-sided-rule (lazy q) = short-rule q

-- ---- what the answer says of the rule

pub no-rule : (m : Option Rule) → told m ≡ None → m ≡ none
unfolding told
no-rule none e = refl
no-rule (some x) e = let z : ◌≡◌ {A = ℕ} 0 1 = cc in absurd (omega arith)

fits-inj : (a b c d : ℕ) → fits a b ≡ fits c d → (a ≡ c) × (b ≡ d)
fits-inj a b c d e =
    let q : ◌≡◌ {A = Ruled} (record { node = a; kind = b }) (record { node = c; kind = d }) = cc in (ap (λ (r : Ruled). r.node) q, ap (λ (r : Ruled). r.kind) q)

pub a-rule : (m : Option Rule) (n k : ℕ) → told m ≡ fits n k → (x : Rule) × (m ≡ some x) × (n ≡ 9 + operation_number x.operation) × (k ≡ x.kind)
unfolding told
a-rule none n k e = let z : ◌≡◌ {A = ℕ} 0 1 = cc in absurd (omega arith)
a-rule (some x) n k e = let q = fits-inj _ _ _ _ e in (x, refl, sym q.0, sym q.1)
