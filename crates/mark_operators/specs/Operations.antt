-- Operators and functions on what the marking machine carries (law, Marking): for every environment that the tables hold and every
-- store, the answer is the machine's, if what it was given is.
use Rattle.std.specs.Prelude.{Bool, true, cond, List, ◌≡◌, ℕ, ◌-◌, eqb, ℤ}
use Rattle.law.specs.Calculate.{Result, ◌>>=◌, is_true, compute, compute1}
use Rattle.law.specs.Environment.{Environment}
use Rattle.law.specs.Machine.{Store, sole, one_cell, short_circuited}
use Rattle.law.specs.Marking.{TypedValue, typed_as, or_stuck, wanted}
use Rattle.law.specs.Operators.{Op, Fun, pred_in, succ_in, operator_rule, function_rule}
use Rattle.code.specs.Readback.{operation_at, operation1_at}
use Rattle.law.specs.Types.{Types, ordinal?}
use Rattle.table_kinds.specs.Kinds.{op_number}
use Rattle.table_kinds.specs.Functions.{fun_number}
use Rattle.table_kinds.specs.Kinds.{Ruling}
use Rattle.std.specs.Prelude.{Some, None}
use Rattle.code_calc.specs.Words.{no_result, word_of, applied1}
use Rattle.mark_values.specs.declared.values.Carried.{Carried}
use Rattle.mark_values.specs.Values.{carried_of, Carries, Known}
use Rattle.table_scope.specs.declared.Scope.{Scope}

-- ---- by what an operator comes to: its node's number and the kind of its result

unfoldable pub ruled_word : Ruling → ℤ → ℤ → Carried
ruled_word None x y = carried_of 0 no_result 0
ruled_word (Some r) x y = carried_of r.kind (word_of (compute (operation_at (r.node - 9)) x y)) 0

-- one-sided, on a value whose kind has the bounds lo and hi
unfoldable pub node_word : ℕ → ℤ → ℤ → ℤ → ℤ
node_word n lo hi x =
    cond (eqb n 38) (applied1 (pred_in lo hi) x) (cond (eqb n 39) (applied1 (succ_in lo hi) x) (applied1 (operation1_at (n - 29)) x))

unfoldable pub ruled_word1 : Ruling → ℤ → ℤ → ℤ → Carried
ruled_word1 None lo hi x = carried_of 0 no_result 0
ruled_word1 (Some r) lo hi x = carried_of r.kind (node_word r.node lo hi x) 0

-- ---- the machine's steps

abbrev pub operated : Types → Op → TypedValue → TypedValue → Result TypedValue
operated Γ o a b = or_stuck (operator_rule Γ o a.kind b.kind) λ r. typed_as r.kind (one_cell (compute r.operation (sole a.cells) (sole b.cells)))

abbrev pub applied : Types → Fun → TypedValue → Result TypedValue
applied Γ f a = or_stuck (function_rule Γ f a.kind) λ r. typed_as r.kind (one_cell (compute1 r.operation (sole a.cells)))

-- ---- the promises

pub record Operates (l ts : List ℕ) (op : ℕ) (x y r : Carried) : Type 0 where
  pub says : (s : List ℕ) (scope : Scope) (σ : Environment) → Known s l ts scope σ → (m : Store) (o : Op) → op ≡ op_number o
      → (v w : Result TypedValue) → Carries σ.types m v x → Carries σ.types m w y → Carries σ.types m (v >>= λ a. w >>= λ b. operated σ.types o a b) r

pub record Applies (l ts : List ℕ) (f : ℕ) (x r : Carried) : Type 0 where
  pub says : (s : List ℕ) (scope : Scope) (σ : Environment) → Known s l ts scope σ → (m : Store) (o : Fun) → f ≡ fun_number o
      → (v : Result TypedValue) → Carries σ.types m v x → Carries σ.types m (v >>= λ a. applied σ.types o a) r

-- `and_then` (true) and `or_else` (false)
pub record Shorts (q : Bool) (x y r : Carried) : Type 0 where
  pub says : (Γ : Types) → ordinal? Γ 1 ≡ true → (m : Store) (v w : Result TypedValue) → Carries Γ m v x → Carries Γ m w y
      → Carries Γ m ((v >>= wanted 1) >>= λ u. typed_as 1 (short_circuited q (is_true (sole u)) (w >>= wanted 1))) r
