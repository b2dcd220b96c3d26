-- A measure of code: numbers for its parts, each within what the brackets and words that spell it pay for at 4 numbers each (CodeRoom, TextRoom).
-- A chain's link pays 2 of each expression and statement, so that these may take 2 less than 4 for each of theirs.
use mathlib.Core.Bool.{Bool}
use mathlib.Core.List.{List, [], ◌∷◌}
use Prim.Native.Nat.{ℕ, ◌+◌, ◌≤◌}
use native.Mathlib.Omega.{arith}
use lib.IntN.{ℤ}
use Rattle.law.specs.Operators.{Operation, Operation1, int_negate, bool_not, int_abs, int_sqr, int_odd, ordinal_of, pred_in, succ_in, set_card, set_least, set_greatest}
use Rattle.law.specs.Code.{Code, literal, load, last_number, make_set, calculate, short_cut, calculate1, Place, cell, index, shift, Codes, no_codes, ◌with◌, Act, assign_ordinal, assign_cell, copy_cells, sequence, branch_on, while_loop, for_loop, case_of, call_to, raise_with, no_act, Acts, stop, ◌also◌, Cases, else_case, no_case, one_case, BodyCode}
use Rattle.code.specs.LayoutSize.{size_node1, size_load, size_code, size_place, size_codes, size_labels, size_act, size_acts, size_cases}

pub record Measure : Type 0 where
  pub code : Code → ℕ
  pub place : Place → ℕ
  pub codes : Codes → ℕ
  pub arguments : Codes → ℕ
  pub labels : List ℤ → ℕ
  pub act : Act → ℕ
  pub acts : Acts → ℕ
  pub cases : Cases → ℕ
  pub of-literal : (z : ℤ) → code (literal z) ≤ 2
  pub of_number : code last_number ≤ 2
  pub of-set : (lo hi : ℤ) (cs : Codes) → code (make_set lo hi cs) ≤ codes cs + 10
  pub of-calculate : (o : Operation) (a b : Code) → code (calculate o a b) ≤ code a + code b + 10
  pub of-short : (q : Bool) (a b : Code) → code (short_cut q a b) ≤ code a + code b + 10
  pub of-calculate1 : (o : Operation1) (a : Code) → code (calculate1 o a) ≤ code a + 8
  -- a place, and the load of cells at one
  pub of-cell : (a : ℕ) → place (cell a) ≤ 2
  pub of-index : (p : Place) (c : Code) (lo hi : ℤ) (k : ℕ) → place (index p c lo hi k) ≤ place p + code c + 10
  pub of_shift : (p : Place) (k : ℕ) → place (shift p k) ≤ place p + 12
  pub load_cell : (a n : ℕ) → code (load (cell a) n) ≤ 2
  pub load-index : (p : Place) (c : Code) (lo hi : ℤ) (k n : ℕ) → code (load (index p c lo hi k) n) ≤ place p + code c + 10
  pub load-shift : (p : Place) (k n : ℕ) → code (load (shift p k) n) ≤ place p + 12
  pub no-codes : codes no_codes ≤ 0
  pub one_code : (c : Code) (cs : Codes) → codes (c with cs) ≤ code c + 2 + codes cs
  pub no_arguments : arguments no_codes ≤ 0
  pub one_argument : (c : Code) (cs : Codes) → arguments (c with cs) ≤ code c + 2 + arguments cs
  pub no-labels : labels [] ≤ 0
  pub one_label : (z : ℤ) (zs : List ℤ) → labels (z ∷ zs) ≤ 4 + labels zs
  pub of-ordinal : (n : ℕ) (p : Place) (lo hi : ℤ) (c : Code) → act (assign_ordinal n p lo hi c) ≤ place p + code c + 10
  pub of-set-cell : (n : ℕ) (p : Place) (c : Code) → act (assign_cell n p c) ≤ place p + code c + 10
  pub of-copy : (n : ℕ) (p q : Place) (k : ℕ) → act (copy_cells n p q k) ≤ place p + code (load q k) + 10
  pub of-sequence : (n : ℕ) (bs : Acts) → act (sequence n bs) ≤ acts bs + 6
  pub of-branch : (n : ℕ) (c : Code) (a b : Act) → act (branch_on n c a b) ≤ code c + act a + act b + 8
  pub of-while : (n : ℕ) (c : Code) (a : Act) → act (while_loop n c a) ≤ code c + act a + 10
  pub of-for : (n i : ℕ) (lo hi : ℤ) (x y : Code) (a : Act) → act (for_loop n i lo hi x y a) ≤ code x + code y + act a + 16
  pub of-case : (n : ℕ) (c : Code) (cs : Cases) → act (case_of n c cs) ≤ code c + cases cs + 8
  pub of-call : (n p : ℕ) (cs : Codes) → act (call_to n p cs) ≤ arguments cs + 10
  pub of-raise : (n : ℕ) (c : Code) → act (raise_with n c) ≤ code c + 8
  pub of-nothing : act no_act ≤ 2
  pub no-acts : acts stop ≤ 0
  pub one-act : (a : Act) (bs : Acts) → acts (a also bs) ≤ act a + 2 + acts bs
  pub of-else : (a : Act) → cases (else_case a) ≤ act a + 10
  pub no-arms : cases no_case ≤ 0
  pub one_arm : (ls : List ℤ) (a : Act) (cs : Cases) → cases (one_case ls a cs) ≤ labels ls + act a + cases cs + 10

-- bodies, with 8 numbers beside the statements of each: what the brackets and words of `(main)` pay for. What parameters' pay for is left
unfoldable pub total : Measure → List BodyCode → ℕ
total M [] = 0
total M (b ∷ bs) = M.acts b.acts + M.acts b.handler + 8 + total M bs

-- ---- the layout's numbers

pub node-small : (o : Operation1) → size_node1 o ≤ 4
unfolding size_node1
node-small int_negate = omega arith
node-small bool_not = omega arith
node-small int_abs = omega arith
node-small int_sqr = omega arith
node-small int_odd = omega arith
node-small ordinal_of = omega arith
node-small set_card = omega arith
node-small set_least = omega arith
node-small set_greatest = omega arith
node-small (pred_in lo hi) = omega arith
node-small (succ_in lo hi) = omega arith

unfoldable pub in_layout : Measure
unfolding size_code size_load size_labels size_act
in_layout = record {
  code = size_code;
  place = size_place;
  codes = size_codes;
  arguments = size_codes;
  labels = size_labels;
  act = size_act;
  acts = size_acts;
  cases = size_cases;
  of-literal = λ z. omega arith;
  of_number = omega arith;
  of-set = λ lo hi cs. omega arith;
  of-calculate = λ o a b. omega arith;
  of-short = λ q a b. omega arith;
  of-calculate1 = λ o a. let m = node-small o in omega arith;
  of-cell = λ a. omega arith;
  of-index = λ p c lo hi k. omega arith;
  of_shift = λ p k. omega arith;
  load_cell = λ a n. omega arith;
  load-index = λ p c lo hi k n. omega arith;
  load-shift = λ p k n. omega arith;
  no-codes = omega arith;
  one_code = λ c cs. omega arith;
  no_arguments = omega arith;
  one_argument = λ c cs. omega arith;
  no-labels = omega arith;
  one_label = λ z zs. omega arith;
  of-ordinal = λ n p lo hi c. omega arith;
  of-set-cell = λ n p c. omega arith;
  of-copy = λ n p q k. omega arith;
  of-sequence = λ n bs. omega arith;
  of-branch = λ n c a b. omega arith;
  of-while = λ n c a. omega arith;
  of-for = λ n i lo hi x y a. omega arith;
  of-case = λ n c cs. omega arith;
  of-call = λ n p cs. omega arith;
  of-raise = λ n c. omega arith;
  of-nothing = omega arith;
  no-acts = omega arith;
  one-act = λ a bs. omega arith;
  of-else = λ a. omega arith;
  no-arms = omega arith;
  one_arm = λ ls a cs. omega arith;
}
