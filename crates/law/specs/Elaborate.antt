-- Row 8, its first part: the fitting of kinds inside a BODY. Elaboration is that rule: it gives code, or nothing exactly at a misfit.
use Rattle.std.specs.Prelude.{Bool, cond, ◌&&◌, List, [], ◌∷◌, ℕ, ℤ, eqb}
use Rattle.std.proofs.Math.Option.{Option, none, some}
use Rattle.leaf_integers.specs.Integers.{inside}
use Rattle.law.specs.Base.{◌>>=◌, both, given, pick}
use Rattle.law.specs.Types.{Types, info_at, Vars, variable, host_of, size_of, ordinal?, set?, array?, base_of, field_of}
use Rattle.law.specs.Operators.{both_booleans, operator_rule, function_rule}
use Rattle.law.specs.Script.{Const, Expr, const, read, error_number, members, end_of, binary, short_circuit, unary, Target, var, at, dot, Exprs, nil, ◌and◌, Stmt, assign, begin, if_else, while, for, case, call, raise, skip, Stmts, done, ◌next◌, Arms, else_arm, no_else, arm, Body}
use Rattle.law.specs.Code.{Code, literal, load, last_number, make_set, calculate, short_cut, calculate1, Place, cell, index, shift, Codes, no_codes, ◌with◌, Act, assign_ordinal, assign_cell, copy_cells, sequence, branch_on, while_loop, for_loop, case_of, call_to, raise_with, no_act, Acts, stop, ◌also◌, Cases, else_case, no_case, one_case, Frame, BodyCode}

-- an expression's kind and code; a target's type and place
pub record Elaborated : Type 0 where
  pub kind : ℕ
  pub code : Code

pub record Located : Type 0 where
  pub type : ℕ
  pub place : Place

abbrev pub elaborated : ℕ → Code → Elaborated
elaborated k c = record { kind = k; code = c }

abbrev pub located : ℕ → Place → Located
located t p = record { type = t; place = p }

-- Document 02, Point 3: "a whole value goes from cell to cell". What an array or a record is given can only be read from another's cells: any
-- other expression is of one cell
unfoldable pub copying : ℕ → Place → Code → Act
copying n p (load q k) = copy_cells n p q k
copying n p (literal z) = assign_cell n p (literal z)
copying n p last_number = assign_cell n p last_number
copying n p (make_set lo hi cs) = assign_cell n p (make_set lo hi cs)
copying n p (calculate o a b) = assign_cell n p (calculate o a b)
copying n p (short_cut q a b) = assign_cell n p (short_cut q a b)
copying n p (calculate1 o a) = assign_cell n p (calculate1 o a)

module _ (Γ : Types) where
  -- a constant is an ordinal of its kind
  abbrev pub in_kind : Const → Bool
  in_kind c = ordinal? Γ c.kind && inside (info_at Γ c.kind).low (info_at Γ c.kind).high c.value

  module _ (Δ : Vars) where
    unfoldable mutual
      pub elab_expr : Expr → Option Elaborated
      elab_expr (const c) = given (in_kind c) (elaborated c.kind (literal c.value))
      elab_expr (read g) = elab_target g >>= λ w. some (elaborated (host_of Γ w.type) (load w.place (size_of Γ w.type)))
      elab_expr error_number = some (elaborated 0 last_number)
      elab_expr (members t es) = elab_members (base_of Γ t) es >>= λ cs. given (set? Γ t) (elaborated t (make_set (info_at Γ t).low (info_at Γ t).high cs))
      elab_expr (end_of q t) = given (ordinal? Γ t) (elaborated (host_of Γ t) (literal (pick q (info_at Γ t).high (info_at Γ t).low)))
      elab_expr (binary op a b) = both (elab_expr a) (elab_expr b) λ x y. operator_rule Γ op x.kind y.kind >>= λ r. some (elaborated r.kind (calculate r.operation x.code y.code))
      elab_expr (short_circuit q a b) = both (elab_expr a) (elab_expr b) λ x y. given (both_booleans x.kind y.kind) (elaborated 1 (short_cut q x.code y.code))
      elab_expr (unary f a) = elab_expr a >>= λ x. function_rule Γ f x.kind >>= λ r. some (elaborated r.kind (calculate1 r.operation x.code))

      pub elab_target : Target → Option Located
      elab_target (var i) = variable Δ i >>= λ v. some (located v.type (cell v.base))
      elab_target (at g e) = both (elab_target g) (elab_expr e) λ w x.
          given (array? Γ w.type && eqb (host_of Γ (info_at Γ w.type).index) x.kind)
          (located (info_at Γ w.type).element (index w.place x.code (info_at Γ w.type).low (info_at Γ w.type).high (size_of Γ (info_at Γ w.type).element)))
      elab_target (dot g n) = elab_target g >>= λ w. field_of (info_at Γ w.type).fields n >>= λ f. some (located f.type (shift w.place f.offset))

      pub elab_members : ℕ → Exprs → Option Codes
      elab_members k nil = some no_codes
      elab_members k (e and es) = both (elab_expr e) (elab_members k es) λ x cs. given (eqb k x.kind) (x.code with cs)

    -- an expression of a kind that is wanted
    unfoldable pub expects : ℕ → Expr → Option Code
    expects k e = elab_expr e >>= λ x. given (eqb k x.kind) x.code

    -- a set is one cell; an array or a record is copied from where it is read
    abbrev pub assigning : ℕ → Located → Code → Act
    assigning n w c =
        cond (ordinal? Γ w.type) (assign_ordinal n w.place (info_at Γ w.type).low (info_at Γ w.type).high c)
        (cond (set? Γ w.type) (assign_cell n w.place c) (copying n w.place c))

    -- labels: all of the kind, and as numbers
    unfoldable pub elab_labels : ℕ → List Const → Option (List ℤ)
    elab_labels k [] = some []
    elab_labels k (c ∷ cs) = both (given (eqb k c.kind) c.value) (elab_labels k cs) λ z zs. some (z ∷ zs)

    -- arguments: each of its parameter's host or set type (their count is a matter of Rules)
    unfoldable pub elab_arguments : List ℕ → Exprs → Option Codes
    elab_arguments [] nil = some no_codes
    elab_arguments [] (e and es) = none
    elab_arguments (t ∷ ts) nil = none
    elab_arguments (t ∷ ts) (e and es) = both (expects (host_of Γ t) e) (elab_arguments ts es) λ c cs. some (c with cs)

    unfoldable mutual
      pub elab_stmt : Stmt → Option Act
      elab_stmt (assign n g e) = elab_target g >>= λ w. expects (host_of Γ w.type) e >>= λ c. some (assigning n w c)
      elab_stmt (begin n ss) = elab_stmts ss >>= λ bs. some (sequence n bs)
      elab_stmt (if_else n e a b) = both (expects 1 e) (elab_stmt a) λ c x. elab_stmt b >>= λ y. some (branch_on n c x y)
      elab_stmt (while n e a) = both (expects 1 e) (elab_stmt a) λ c x. some (while_loop n c x)
      elab_stmt (for n i a b s) = variable Δ i >>= λ v.
          both (expects (host_of Γ v.type) a) (expects (host_of Γ v.type) b) λ x y. elab_stmt s >>= λ z.
          given (ordinal? Γ v.type) (for_loop n v.base (info_at Γ v.type).low (info_at Γ v.type).high x y z)
      elab_stmt (case n e bs) = elab_expr e >>= λ x. elab_arms x.kind bs >>= λ cs. given (ordinal? Γ x.kind) (case_of n x.code cs)
      elab_stmt (call n p ts es) = elab_arguments ts es >>= λ cs. some (call_to n p cs)
      elab_stmt (raise n e) = expects 0 e >>= λ c. some (raise_with n c)
      elab_stmt skip = some no_act

      pub elab_stmts : Stmts → Option Acts
      elab_stmts done = some stop
      elab_stmts (s next ss) = both (elab_stmt s) (elab_stmts ss) λ x y. some (x also y)

      pub elab_arms : ℕ → Arms → Option Cases
      elab_arms k (else_arm s) = elab_stmt s >>= λ x. some (else_case x)
      elab_arms k no_else = some no_case
      elab_arms k (arm ls s bs) = both (elab_labels k ls) (elab_stmt s) λ zs x. elab_arms k bs >>= λ y. some (one_case zs x y)

    -- a body's code, with its parameters
    unfoldable pub elab_body : Frame → Body → Option BodyCode
    elab_body q b = both (elab_stmts b.stmts) (elab_stmts b.handler) λ x y. some (record { frame = q; acts = x; handles = b.handles; handler = y })
