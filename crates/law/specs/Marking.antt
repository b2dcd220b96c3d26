-- The marking machine (H): runs a script with its types. It carries a type with each value and each cell, consults no verdict, and
-- sticks where what it carries out meets a type that the forms don't admit there; `or_stuck`, `require` and `wanted` alone stick.
use Rattle.std.specs.Prelude.{Bool, true, false, ◌&&◌, List, [], ◌∷◌, ℕ, ◌+◌, ◌*◌, ℤ, pos, ◌-ℤ◌, eqb}
use Rattle.std.proofs.Math.Option.{Option, none, some}
use Rattle.law.specs.Base.{pick}
use Rattle.law.specs.Types.{Types, info_at, Var, Vars, variable, host_of, size_of, ordinal?, set?, array?, base_of, field_of}
use Rattle.law.specs.Operators.{operator_rule, function_rule}
use Rattle.law.specs.Script.{Const, Expr, const, read, error_number, members, end_of, binary, short_circuit, unary, Target, var, at, dot, Exprs, nil, ◌and◌, Stmt, assign, begin, if_else, while, for, case, call, raise, skip, Stmts, done, ◌next◌, Arms, else_arm, no_else, arm}
use Rattle.law.specs.Elaborate.{in_kind}
use Rattle.law.specs.Code.{Want}
use Rattle.law.specs.Calculate.{nat_of, Result, is, fails, stuck, ◌>>=◌, range_error, case_error, tested, is_true, equal_z, joined, compute, compute1}
use Rattle.law.specs.Machine.{Store, State, Answer, answer, normal, read_cells, sole, one_cell, and_then, with_result, step, branch, while_rounds, count_up, store_ordinal, store_whole, raise_number, raising, Procs, procedure_at, admitted, entered, short_circuited}

-- a value with its kind; a place with its type
pub record TypedValue : Type 0 where
  pub kind : ℕ
  pub cells : List ℤ

pub record TypedPlace : Type 0 where
  pub type : ℕ
  pub addr : ℕ

abbrev pub typed_value : ℕ → List ℤ → TypedValue
typed_value k zs = record { kind = k; cells = zs }

abbrev pub typed_place : ℕ → ℕ → TypedPlace
typed_place t a = record { type = t; addr = a }

-- a result with the kind or type that it has
abbrev pub typed_as : ℕ → Result (List ℤ) → Result TypedValue
typed_as k (is zs) = is (typed_value k zs)
typed_as k (fails n) = fails n
typed_as k stuck = stuck

abbrev pub placed_as : ℕ → Result ℕ → Result TypedPlace
placed_as t (is a) = is (typed_place t a)
placed_as t (fails n) = fails n
placed_as t stuck = stuck

-- what a table admits, else stuck; what a test admits, else stuck; the value of a kind, else stuck
abbrev pub or_stuck : {A B : Type 0} → Option A → (A → Result B) → Result B
or_stuck none f = stuck
or_stuck (some a) f = f a

abbrev pub require : {A : Type 0} → Bool → Result A → Result A
require true v = v
require false v = stuck

abbrev pub wanted : ℕ → TypedValue → Result (List ℤ)
wanted k v = require (eqb k v.kind) (is v.cells)

module _ (Γ : Types) (Δ : Vars) where
  unfoldable mutual
    pub mark_expr : Expr → Store → Result TypedValue
    mark_expr (const c) m = require (in_kind Γ c) (is (typed_value c.kind (c.value ∷ [])))
    mark_expr (read g) m = mark_target g m >>= λ w. typed_as (host_of Γ w.type) (read_cells w.addr (size_of Γ w.type) m)
    mark_expr error_number m = is (typed_value 0 (m.latest ∷ []))
    mark_expr (members t es) m = require (set? Γ t) (typed_as t (one_cell (mark_members t es m)))
    mark_expr (end_of q t) m = require (ordinal? Γ t) (is (typed_value (host_of Γ t) (pick q (info_at Γ t).high (info_at Γ t).low ∷ [])))
    mark_expr (binary op a b) m = mark_expr a m >>= λ x. mark_expr b m >>= λ y.
        or_stuck (operator_rule Γ op x.kind y.kind) λ r. typed_as r.kind (one_cell (compute r.operation (sole x.cells) (sole y.cells)))
    mark_expr (short_circuit q a b) m = (mark_expr a m >>= wanted 1) >>= λ u. typed_as 1 (short_circuited q (is_true (sole u)) (mark_expr b m >>= wanted 1))
    mark_expr (unary f a) m = mark_expr a m >>= λ x. or_stuck (function_rule Γ f x.kind) λ r. typed_as r.kind (one_cell (compute1 r.operation (sole x.cells)))

    pub mark_target : Target → Store → Result TypedPlace
    mark_target (var i) m = or_stuck (variable Δ i) λ v. is (typed_place v.type v.base)
    mark_target (at g e) m = mark_target g m >>= λ w. mark_expr e m >>= λ x.
        require (array? Γ w.type && eqb (host_of Γ (info_at Γ w.type).index) x.kind)
        (placed_as (info_at Γ w.type).element (tested range_error (info_at Γ w.type).low (info_at Γ w.type).high (sole x.cells) >>= λ z.
        is (w.addr + nat_of (z -ℤ (info_at Γ w.type).low) * size_of Γ (info_at Γ w.type).element)))
    mark_target (dot g n) m = mark_target g m >>= λ w. or_stuck (field_of (info_at Γ w.type).fields n) λ f. is (typed_place f.type (w.addr + f.offset))

    pub mark_members : ℕ → Exprs → Store → Result ℤ
    mark_members t nil m = is (pos 0)
    mark_members t (e and es) m = (mark_expr e m >>= wanted (base_of Γ t)) >>= λ u.
        tested range_error (info_at Γ t).low (info_at Γ t).high (sole u) >>= λ z. mark_members t es m >>= λ zs. is (joined z zs)

  -- the arguments of a call: each is worked out, its kind met, then tested, before the next
  unfoldable pub mark_arguments : List Want → List ℕ → Exprs → Store → Result (List ℤ)
  mark_arguments ws ts nil m = is []
  mark_arguments ws [] (e and es) m = is []
  mark_arguments [] (t ∷ ts) (e and es) m = is []
  mark_arguments (w ∷ ws) (t ∷ ts) (e and es) m = (mark_expr e m >>= wanted (host_of Γ t)) >>= λ u. admitted w (sole u) >>= λ z. mark_arguments ws ts es m >>= λ zs. is (z ∷ zs)

  unfoldable pub mark_condition : ℕ → Expr → State → (Bool → Answer) → Answer
  mark_condition n e s f = with_result n s (mark_expr e s.store >>= wanted 1) λ x. f (is_true (sole x))

  -- labels are met in text order up to the match
  unfoldable pub mark_labels : ℕ → ℤ → List Const → Result Bool
  mark_labels k z [] = is false
  mark_labels k z (l ∷ ls) = require (eqb k l.kind) (pick (equal_z l.value z) (is true) (mark_labels k z ls))

  abbrev pub mark_store : ℕ → TypedPlace → List ℤ → State → Answer
  mark_store n w zs = branch (ordinal? Γ w.type) (store_ordinal n w.addr (info_at Γ w.type).low (info_at Γ w.type).high (sole zs)) (store_whole n w.addr zs)

  -- both bounds of a `for` are met after both are worked out
  unfoldable pub mark_bounds : Var → TypedValue → TypedValue → Result (ℤ × ℤ)
  mark_bounds x u v = wanted (host_of Γ x.type) u >>= λ a. wanted (host_of Γ x.type) v >>= λ b. require (ordinal? Γ x.type) (is (sole a, sole b))

  module _ (ps : Procs) where
    unfoldable mutual
      pub mark_stmt : Stmt → State → Answer
      mark_stmt (assign n g e) s = step s λ s'. with_result n s' (mark_expr e s'.store) λ v. with_result n s' (mark_target g s'.store) λ w.
          with_result n s' (wanted (host_of Γ w.type) v) λ zs. mark_store n w zs s'
      mark_stmt (begin n ss) s = step s λ t. mark_stmts ss t
      mark_stmt (if_else n e a b) s = step s λ s'. mark_condition n e s' λ q. branch q (mark_stmt a) (mark_stmt b) s'
      mark_stmt (while n e a) s = step s λ s'. while_rounds s'.left (mark_condition n e) (mark_stmt a) s'
      mark_stmt (for n i a b c) s = step s λ s'. with_result n s' (or_stuck (variable Δ i) is) λ x.
          with_result n s' (mark_expr a s'.store) λ u. with_result n s' (mark_expr b s'.store) λ v.
          with_result n s' (mark_bounds x u v) λ p. count_up n x.base (info_at Γ x.type).low (info_at Γ x.type).high p.0 p.1 (mark_stmt c) s'
      mark_stmt (case n e bs) s = step s λ s'. with_result n s' (mark_expr e s'.store) λ v.
          with_result n s' (require (ordinal? Γ v.kind) (is v)) λ v. mark_arms n v.kind (sole v.cells) bs s'
      mark_stmt (call n p ts es) s = step s λ s'. with_result n s' (mark_arguments (procedure_at ps p).frame.wants ts es s'.store) λ zs. entered (procedure_at ps p) zs s'
      mark_stmt (raise n e) s = step s λ s'. with_result n s' (mark_expr e s'.store >>= wanted 0) λ x. raise_number n (sole x) s'
      mark_stmt skip s = answer normal s

      pub mark_stmts : Stmts → State → Answer
      mark_stmts done s = answer normal s
      mark_stmts (a next bs) s = and_then (mark_stmt a s) λ t. mark_stmts bs t

      pub mark_arms : ℕ → ℕ → ℤ → Arms → State → Answer
      mark_arms n k z (else_arm a) s = mark_stmt a s
      mark_arms n k z no_else s = raising case_error n s
      mark_arms n k z (arm ls a bs) s = with_result n s (mark_labels k z ls) λ q. branch q (λ t. mark_stmt a t) (λ t. mark_arms n k z bs t) s
