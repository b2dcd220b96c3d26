-- The code's second table against the definition: `ruling1` at the side of a table of types is what `function_rule` says.
use mathlib.Core.Path.{◌≡◌, refl, sym, ap, ◌∙◌}
use mathlib.Core.Bool.{Bool, true, false, cond}
use mathlib.Core.List.{List, [], map}
use mathlib.Core.Option.{Option, none, some}
use Prim.Native.Nat.{ℕ, zero, suc}
use native.Mathlib.Omega.{arith}
use borrow.Author.Tests.{ne_eqb}
use lib.Dec.{eqb}
use lib.ListN.{get_or}
use Rattle.law.specs.Base.{given, pick}
use Rattle.code.specs.Layout.{node1}
use Rattle.law.specs.Operators.{Fun, negate, not_of, abs, sqr, odd, ord, pred, succ, card, setmin, setmax, Operation1, int_negate, bool_not, int_abs, int_sqr, int_odd, ordinal_of, pred_in, succ_in, set_card, set_least, set_greatest, Rule1, rule1, function_rule}
use Rattle.law.specs.Types.{Types, info_at, ordinal?, set?, base_of}
use Rattle.table_kinds.specs.Kinds.{class_at, side_of, Kinded, row_of, classes, integer_class, boolean_class, ordinal_class, set_class}
use Rattle.table_kinds.specs.Functions.{node_of, takes, fun_node, fun_number, table1, node_at1, result_of1, ruling1, told1}
use Rattle.code_ops.specs.Functions.{functions}
use Rattle.table_kinds.specs.declared.Class.{Class}
use Rattle.table_kinds.specs.Kinds.{Ruling, fits}
use Rattle.std.specs.Prelude.{None}
use Rattle.table_kinds.specs.declared.Ruled.{Ruled}
use Rattle.table_kinds.proofs.TwoSided.{class-at, is-integer, is-boolean, is-ordinal, is-set}

fun-at : {B : Type 0} (g : Fun → B) (d : B) (f : Fun) → get_or (map g functions) (fun_number f) d ≡ g f
unfolding fun_number
fun-at g d negate = refl
fun-at g d not_of = refl
fun-at g d abs = refl
fun-at g d sqr = refl
fun-at g d odd = refl
fun-at g d ord = refl
fun-at g d pred = refl
fun-at g d succ = refl
fun-at g d card = refl
fun-at g d setmin = refl
fun-at g d setmax = refl

entry : (f : Fun) (c : Class) → node_at1 (fun_number f) (row_of c) ≡ cond (takes f c) (fun_node f) 0
unfolding node_at1 table1
entry f c =
    ap (λ (m : List ℕ). get_or m (row_of c) 0) (fun-at (λ (g : Fun). map (λ (x : Class). cond (takes g x) (fun_node g) 0) classes) [] f)
    ∙ class-at (λ (x : Class). cond (takes f x) (fun_node f) 0) 0 c

-- the definition's tests have their numbers on the other side
zero-turned : (k : ℕ) → eqb 0 k ≡ eqb k 0
zero-turned zero = refl
zero-turned (suc k) = ne_eqb 0 (suc k) (λ h. omega arith) ∙ sym (ne_eqb (suc k) 0 (λ h. omega arith))

one-turned : (k : ℕ) → eqb 1 k ≡ eqb k 1
one-turned zero = refl
one-turned (suc zero) = refl
one-turned (suc (suc k)) = ne_eqb 1 (suc (suc k)) (λ h. omega arith) ∙ sym (ne_eqb (suc (suc k)) 1 (λ h. omega arith))

-- what an entry says, of a function that takes its side or does not
abbrev ruled : ℕ → ℕ → ℕ → Ruling
ruled n k b = pick (eqb n 0) None (fits n (result_of1 n k b))

way : (p P : Bool) (n : ℕ) (x : Operation1) (j k b : ℕ) → p ≡ P → eqb n 0 ≡ false → n ≡ node_of x → result_of1 n k b ≡ j
    → ruled (cond p n 0) k b ≡ told1 (given P (rule1 x j))
unfolding pick given told1
way true P n x j k b e f g h = rw (← e, f, ← g, h) refl
way false P n x j k b e f g h = rw (← e) refl

module _ (Γ : Types) (K : Kinded Γ) (k : ℕ) where
  start : (f : Fun) → ruling1 (fun_number f) (side_of Γ k)
      ≡ ruled (cond (takes f (class_at Γ k)) (fun_node f) 0) k (base_of Γ k)
  unfolding ruling1
  start f = rw (entry f (class_at Γ k)) refl

  -- the four tests
  an-integer : integer_class (class_at Γ k) ≡ eqb k 0
  an-integer = is-integer Γ K k ∙ zero-turned k

  a-boolean : boolean_class (class_at Γ k) ≡ eqb k 1
  a-boolean = is-boolean Γ K k ∙ one-turned k

  on-integer : (n : ℕ) (x : Operation1) (j : ℕ) → eqb n 0 ≡ false → n ≡ node_of x → result_of1 n k (base_of Γ k) ≡ j
      → ruled (cond (integer_class (class_at Γ k)) n 0) k (base_of Γ k) ≡ told1 (given (eqb k 0) (rule1 x j))
  on-integer n x j = way (integer_class (class_at Γ k)) (eqb k 0) n x j k (base_of Γ k) an-integer

  on-ordinal : (n : ℕ) (x : Operation1) (j : ℕ) → eqb n 0 ≡ false → n ≡ node_of x → result_of1 n k (base_of Γ k) ≡ j
      → ruled (cond (ordinal_class (class_at Γ k)) n 0) k (base_of Γ k) ≡ told1 (given (ordinal? Γ k) (rule1 x j))
  on-ordinal n x j = way (ordinal_class (class_at Γ k)) (ordinal? Γ k) n x j k (base_of Γ k) (is-ordinal Γ K k)

  on-set : (n : ℕ) (x : Operation1) (j : ℕ) → eqb n 0 ≡ false → n ≡ node_of x → result_of1 n k (base_of Γ k) ≡ j
      → ruled (cond (set_class (class_at Γ k)) n 0) k (base_of Γ k) ≡ told1 (given (set? Γ k) (rule1 x j))
  on-set n x j = way (set_class (class_at Γ k)) (set? Γ k) n x j k (base_of Γ k) (is-set Γ K k)

  -- the theorem: the code's answer is the definition's, for every function and any kind
  pub one-sided-rule : (f : Fun) → ruling1 (fun_number f) (side_of Γ k) ≡ told1 (function_rule Γ f k)
  unfolding function_rule takes fun_node result_of1 node1
  one-sided-rule negate = start negate ∙ on-integer 29 int_negate 0 refl refl refl
  one-sided-rule not_of = start not_of ∙ way (boolean_class (class_at Γ k)) (eqb k 1) 30 bool_not 1 k (base_of Γ k) a-boolean refl refl refl
  one-sided-rule abs = start abs ∙ on-integer 31 int_abs 0 refl refl refl
  one-sided-rule sqr = start sqr ∙ on-integer 32 int_sqr 0 refl refl refl
  one-sided-rule odd = start odd ∙ on-integer 33 int_odd 1 refl refl refl
  one-sided-rule ord = start ord ∙ on-ordinal 34 ordinal_of 0 refl refl refl
  one-sided-rule pred = start pred ∙ on-ordinal 38 (pred_in (info_at Γ k).low (info_at Γ k).high) k refl refl refl
  one-sided-rule succ = start succ ∙ on-ordinal 39 (succ_in (info_at Γ k).low (info_at Γ k).high) k refl refl refl
  one-sided-rule card = start card ∙ on-set 35 set_card 0 refl refl refl
  one-sided-rule setmin = start setmin ∙ on-set 36 set_least (base_of Γ k) refl refl refl
  one-sided-rule setmax = start setmax ∙ on-set 37 set_greatest (base_of Γ k) refl refl refl

-- ---- what the answer says of the rule

pub no-rule : (m : Option Rule1) → told1 m ≡ None → m ≡ none
unfolding told1
no-rule none e = refl
no-rule (some x) e = let z : ◌≡◌ {A = ℕ} 0 1 = cc in absurd (omega arith)

fits-inj : (a b c d : ℕ) → fits a b ≡ fits c d → (a ≡ c) × (b ≡ d)
fits-inj a b c d e =
    let q : ◌≡◌ {A = Ruled} (record { node = a; kind = b }) (record { node = c; kind = d }) = cc in (ap (λ (r : Ruled). r.node) q, ap (λ (r : Ruled). r.kind) q)

pub a-rule : (m : Option Rule1) (n k : ℕ) → told1 m ≡ fits n k → (x : Rule1) × (m ≡ some x) × (n ≡ node_of x.operation) × (k ≡ x.kind)
unfolding told1
a-rule none n k e = let z : ◌≡◌ {A = ℕ} 0 1 = cc in absurd (omega arith)
a-rule (some x) n k e = let q = fits-inj _ _ _ _ e in (x, refl, sym q.0, sym q.1)
