-- "The forms": the operators and functions, and the table of the kinds that each takes (part of row 8).
use Rattle.std.specs.Prelude.{Bool, ◌&&◌, ℕ, ℤ, eqb}
use Rattle.std.proofs.Math.Option.{Option}
use Rattle.law.specs.Base.{given, either}
use Rattle.law.specs.Types.{Types, info_at, ordinal?, set?, base_of}

-- two-sided operators, but for `and_then` and `or_else`, which may leave their right side alone
pub data Op : Type 0 where
  plus minus times power divide modulo : Op
  equal unequal less at_most greater at_least : Op
  member and_both or_both : Op

-- one-sided operators and functions
pub data Fun : Type 0 where
  negate not_of abs sqr odd ord pred succ card setmin setmax : Fun

-- what an operator or function comes to once its kinds are known
pub data Operation : Type 0 where
  int_add int_sub int_mul int_power int_div int_mod set_union set_difference set_intersection : Operation
  -- on numbers: ordinals, and for the first two also sets, whose values are equal exactly when their members are
  num_equal num_unequal num_less num_at_most num_greater num_at_least set_within set_holds member_of bool_and bool_or : Operation

pub data Operation1 : Type 0 where
  int_negate bool_not int_abs int_sqr int_odd ordinal_of : Operation1
  pred_in succ_in : ℤ → ℤ → Operation1  -- within the host's bounds
  set_card set_least set_greatest : Operation1

-- what an operator or function comes to at its kinds, and the result's kind
pub record Rule : Type 0 where
  pub operation : Operation
  pub kind : ℕ

pub record Rule1 : Type 0 where
  pub operation : Operation1
  pub kind : ℕ

abbrev pub rule : Operation → ℕ → Rule
rule c k = record { operation = c; kind = k }

abbrev pub rule1 : Operation1 → ℕ → Rule1
rule1 c k = record { operation = c; kind = k }

abbrev pub both_integers : ℕ → ℕ → Bool
both_integers l r = eqb 0 l && eqb 0 r

abbrev pub both_booleans : ℕ → ℕ → Bool
both_booleans l r = eqb 1 l && eqb 1 r

module _ (Γ : Types) where
  -- the same kind, of ordinals or of sets
  abbrev pub same_ordinals : ℕ → ℕ → Bool
  same_ordinals l r = eqb l r && ordinal? Γ l

  abbrev pub same_sets : ℕ → ℕ → Bool
  same_sets l r = eqb l r && set? Γ l

  -- the table of operator by left kind by right kind
  unfoldable pub operator_rule : Op → ℕ → ℕ → Option Rule
  operator_rule plus l r = either (given (both_integers l r) (rule int_add 0)) (given (same_sets l r) (rule set_union l))
  operator_rule minus l r = either (given (both_integers l r) (rule int_sub 0)) (given (same_sets l r) (rule set_difference l))
  operator_rule times l r = either (given (both_integers l r) (rule int_mul 0)) (given (same_sets l r) (rule set_intersection l))
  operator_rule power l r = given (both_integers l r) (rule int_power 0)
  operator_rule divide l r = given (both_integers l r) (rule int_div 0)
  operator_rule modulo l r = given (both_integers l r) (rule int_mod 0)
  operator_rule equal l r = either (given (same_ordinals l r) (rule num_equal 1)) (given (same_sets l r) (rule num_equal 1))
  operator_rule unequal l r = either (given (same_ordinals l r) (rule num_unequal 1)) (given (same_sets l r) (rule num_unequal 1))
  operator_rule less l r = given (same_ordinals l r) (rule num_less 1)
  operator_rule at_most l r = either (given (same_ordinals l r) (rule num_at_most 1)) (given (same_sets l r) (rule set_within 1))
  operator_rule greater l r = given (same_ordinals l r) (rule num_greater 1)
  operator_rule at_least l r = either (given (same_ordinals l r) (rule num_at_least 1)) (given (same_sets l r) (rule set_holds 1))
  operator_rule member l r = given (set? Γ r && eqb l (base_of Γ r)) (rule member_of 1)
  operator_rule and_both l r = given (both_booleans l r) (rule bool_and 1)
  operator_rule or_both l r = given (both_booleans l r) (rule bool_or 1)

  -- and of the one-sided operators and functions by their argument's kind
  unfoldable pub function_rule : Fun → ℕ → Option Rule1
  function_rule negate k = given (eqb k 0) (rule1 int_negate 0)
  function_rule not_of k = given (eqb k 1) (rule1 bool_not 1)
  function_rule abs k = given (eqb k 0) (rule1 int_abs 0)
  function_rule sqr k = given (eqb k 0) (rule1 int_sqr 0)
  function_rule odd k = given (eqb k 0) (rule1 int_odd 1)
  function_rule ord k = given (ordinal? Γ k) (rule1 ordinal_of 0)
  function_rule pred k = given (ordinal? Γ k) (rule1 (pred_in (info_at Γ k).low (info_at Γ k).high) k)
  function_rule succ k = given (ordinal? Γ k) (rule1 (succ_in (info_at Γ k).low (info_at Γ k).high) k)
  function_rule card k = given (set? Γ k) (rule1 set_card 0)
  function_rule setmin k = given (set? Γ k) (rule1 set_least (base_of Γ k))
  function_rule setmax k = given (set? Γ k) (rule1 set_greatest (base_of Γ k))
