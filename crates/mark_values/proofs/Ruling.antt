-- What the operators and functions come to: the operation by its node's number, and a kind of one cell.
use mathlib.Core.Path.{◌≡◌, refl, sym}
use mathlib.Core.Bool.{Bool, true, false, ◌&&◌, ◌||◌, true≢false}
use mathlib.Core.Option.{some}
use Prim.Native.Nat.{ℕ, ◌-◌, ◌<◌}
use native.Mathlib.Omega.{arith}
use lib.Dec.{eqb}
use Rattle.law.specs.Base.{given, either}
use Rattle.code.specs.Layout.{operation_number, node1}
use Rattle.law.specs.Operators.{Op, plus, minus, times, power, divide, modulo, equal, unequal, less, at_most, greater, at_least, member, and_both, or_both, Fun, negate, not_of, abs, sqr, odd, ord, pred, succ, card, setmin, setmax, Operation, int_add, int_sub, int_mul, int_power, int_div, int_mod, set_union, set_difference, set_intersection, num_equal, num_unequal, num_less, num_at_most, num_greater, num_at_least, set_within, set_holds, member_of, bool_and, bool_or, Operation1, int_negate, bool_not, int_abs, int_sqr, int_odd, ordinal_of, pred_in, succ_in, set_card, set_least, set_greatest, Rule, rule, Rule1, rule1, both_integers, both_booleans, same_ordinals, same_sets, operator_rule, function_rule}
use Rattle.code.specs.Readback.{operations, operation_at, operations1, operation1_at}
use Rattle.law.specs.Types.{Types, info_at, ordinal?, set?, base_of}
use Rattle.law_theorems.proofs.Inversion.{given-some, either-some, and-true}
use Rattle.table_kinds.specs.Functions.{node_of}
use Rattle.table_kinds.specs.Kinds.{Kinded}
use Rattle.mark_values.specs.Values.{simple?}

pub operation-back : (o : Operation) → operation_at (operation_number o) ≡ o
unfolding operation_at operations operation_number
operation-back int_add = refl
operation-back int_sub = refl
operation-back int_mul = refl
operation-back int_power = refl
operation-back int_div = refl
operation-back int_mod = refl
operation-back set_union = refl
operation-back set_difference = refl
operation-back set_intersection = refl
operation-back num_equal = refl
operation-back num_unequal = refl
operation-back num_less = refl
operation-back num_at_most = refl
operation-back num_greater = refl
operation-back num_at_least = refl
operation-back set_within = refl
operation-back set_holds = refl
operation-back member_of = refl
operation-back bool_and = refl
operation-back bool_or = refl

module _ (Γ : Types) (K : Kinded Γ) where
  or_left : (a b : Bool) → a ≡ true → (a || b) ≡ true
  or_left true b h = refl
  or_left false b h = absurd (true≢false (sym h))

  or_right : (a b : Bool) → b ≡ true → (a || b) ≡ true
  or_right true b h = refl
  or_right false b h = h

  pub simple-ordinal : (k : ℕ) → ordinal? Γ k ≡ true → simple? Γ k ≡ true
  simple-ordinal k h = or_left (ordinal? Γ k) (set? Γ k) h

  pub simple-set : (k : ℕ) → set? Γ k ≡ true → simple? Γ k ≡ true
  simple-set k h = or_right (ordinal? Γ k) (set? Γ k) h

  simple-integer : simple? Γ 0 ≡ true
  simple-integer = simple-ordinal 0 K.integers

  simple-boolean : simple? Γ 1 ≡ true
  simple-boolean = simple-ordinal 1 K.booleans

  -- ---- two sides: integer, boolean, or the kind of both sides, which are sets

  module _ (l r : ℕ) where
    on-either : (s t : Bool) (a b x : Rule) → either (given s a) (given t b) ≡ some x → simple? Γ a.kind ≡ true → (t ≡ true → simple? Γ b.kind ≡ true) → simple? Γ x.kind ≡ true
    on-either s t a b x h p q = either-some h (λ g. given-some g (λ _ e. rw (← e) p)) (λ g. given-some g (λ y e. rw (← e) (q y)))

    on_one : (s : Bool) (a x : Rule) → given s a ≡ some x → simple? Γ a.kind ≡ true → simple? Γ x.kind ≡ true
    on_one s a x h p = given-some h (λ _ e. rw (← e) p)

    sets : same_sets Γ l r ≡ true → simple? Γ l ≡ true
    sets h = simple-set l (and-true (eqb l r) (set? Γ l) h).1

    pub rule-simple : (o : Op) (x : Rule) → operator_rule Γ o l r ≡ some x → simple? Γ x.kind ≡ true
    unfolding operator_rule
    rule-simple plus x h = on-either (both_integers l r) (same_sets Γ l r) (rule int_add 0) (rule set_union l) x h simple-integer sets
    rule-simple minus x h = on-either (both_integers l r) (same_sets Γ l r) (rule int_sub 0) (rule set_difference l) x h simple-integer sets
    rule-simple times x h = on-either (both_integers l r) (same_sets Γ l r) (rule int_mul 0) (rule set_intersection l) x h simple-integer sets
    rule-simple power x h = on_one (both_integers l r) (rule int_power 0) x h simple-integer
    rule-simple divide x h = on_one (both_integers l r) (rule int_div 0) x h simple-integer
    rule-simple modulo x h = on_one (both_integers l r) (rule int_mod 0) x h simple-integer
    rule-simple equal x h = on-either (same_ordinals Γ l r) (same_sets Γ l r) (rule num_equal 1) (rule num_equal 1) x h simple-boolean (λ _. simple-boolean)
    rule-simple unequal x h = on-either (same_ordinals Γ l r) (same_sets Γ l r) (rule num_unequal 1) (rule num_unequal 1) x h simple-boolean (λ _. simple-boolean)
    rule-simple less x h = on_one (same_ordinals Γ l r) (rule num_less 1) x h simple-boolean
    rule-simple at_most x h = on-either (same_ordinals Γ l r) (same_sets Γ l r) (rule num_at_most 1) (rule set_within 1) x h simple-boolean (λ _. simple-boolean)
    rule-simple greater x h = on_one (same_ordinals Γ l r) (rule num_greater 1) x h simple-boolean
    rule-simple at_least x h = on-either (same_ordinals Γ l r) (same_sets Γ l r) (rule num_at_least 1) (rule set_holds 1) x h simple-boolean (λ _. simple-boolean)
    rule-simple member x h = on_one (set? Γ r && eqb l (base_of Γ r)) (rule member_of 1) x h simple-boolean
    rule-simple and_both x h = on_one (both_booleans l r) (rule bool_and 1) x h simple-boolean
    rule-simple or_both x h = on_one (both_booleans l r) (rule bool_or 1) x h simple-boolean

  -- ---- one side

  module _ (k : ℕ) where
    -- an operation of a node of its own, or one with the bounds of kind k
    pub data Comes : Operation1 → Type 0 where
      plainly : (o : Operation1) → node_of o < 38 → operation1_at (node_of o - 29) ≡ o → Comes o
      by-pred : Comes (pred_in (info_at Γ k).low (info_at Γ k).high)
      by-succ : Comes (succ_in (info_at Γ k).low (info_at Γ k).high)

    pub record Ruled (x : Rule1) : Type 0 where
      pub comes : Comes x.operation
      pub simple : simple? Γ x.kind ≡ true

    on : (s : Bool) (a x : Rule1) → given s a ≡ some x → (s ≡ true → Ruled a) → Ruled x
    on s a x h p = given-some h (λ t e. rw (← e) (p t))

    pub rule-comes : (f : Fun) (x : Rule1) → function_rule Γ f k ≡ some x → Ruled x
    unfolding function_rule node1 operation1_at operations1
    rule-comes negate x h = on (eqb k 0) (rule1 int_negate 0) x h (λ _. record { comes = plainly int_negate (omega arith) refl; simple = simple-integer })
    rule-comes not_of x h = on (eqb k 1) (rule1 bool_not 1) x h (λ _. record { comes = plainly bool_not (omega arith) refl; simple = simple-boolean })
    rule-comes abs x h = on (eqb k 0) (rule1 int_abs 0) x h (λ _. record { comes = plainly int_abs (omega arith) refl; simple = simple-integer })
    rule-comes sqr x h = on (eqb k 0) (rule1 int_sqr 0) x h (λ _. record { comes = plainly int_sqr (omega arith) refl; simple = simple-integer })
    rule-comes odd x h = on (eqb k 0) (rule1 int_odd 1) x h (λ _. record { comes = plainly int_odd (omega arith) refl; simple = simple-boolean })
    rule-comes ord x h = on (ordinal? Γ k) (rule1 ordinal_of 0) x h (λ _. record { comes = plainly ordinal_of (omega arith) refl; simple = simple-integer })
    rule-comes pred x h = on (ordinal? Γ k) (rule1 (pred_in (info_at Γ k).low (info_at Γ k).high) k) x h (λ t. record { comes = by-pred; simple = simple-ordinal k t })
    rule-comes succ x h = on (ordinal? Γ k) (rule1 (succ_in (info_at Γ k).low (info_at Γ k).high) k) x h (λ t. record { comes = by-succ; simple = simple-ordinal k t })
    rule-comes card x h = on (set? Γ k) (rule1 set_card 0) x h (λ _. record { comes = plainly set_card (omega arith) refl; simple = simple-integer })
    rule-comes setmin x h = on (set? Γ k) (rule1 set_least (base_of Γ k)) x h (λ t. record { comes = plainly set_least (omega arith) refl; simple = simple-ordinal (base_of Γ k) (K.bases k t) })
    rule-comes setmax x h = on (set? Γ k) (rule1 set_greatest (base_of Γ k)) x h (λ t. record { comes = plainly set_greatest (omega arith) refl; simple = simple-ordinal (base_of Γ k) (K.bases k t) })
