-- "The forms" with their names resolved: types, variables and procedures are numbers, constants have a kind; fields stay names.
use Rattle.std.specs.Prelude.{Bool, List, ℕ, ℤ}
use Rattle.law.specs.Base.{Name}
use Rattle.law.specs.Operators.{Op, Fun}

-- a constant: its kind and its value
pub record Const : Type 0 where
  pub kind : ℕ
  pub value : ℤ

mutual
  pub data Expr : Type 0 where
    const : Const → Expr
    read : Target → Expr
    error_number : Expr
    members : ℕ → Exprs → Expr
    end_of : Bool → ℕ → Expr  -- first (false), last (true)
    binary : Op → Expr → Expr → Expr
    short_circuit : Bool → Expr → Expr → Expr  -- and_then (true), or_else (false)
    unary : Fun → Expr → Expr

  pub data Target : Type 0 where
    var : ℕ → Target
    at : Target → Expr → Target
    dot : Target → Name → Target

  pub data Exprs : Type 0 where
    nil : Exprs
    ◌and◌ : Expr → Exprs → Exprs

infixr 40 ◌and◌
mutual
  pub data Stmt : Type 0 where
    assign : ℕ → Target → Expr → Stmt
    begin : ℕ → Stmts → Stmt
    if_else : ℕ → Expr → Stmt → Stmt → Stmt  -- an `if` with no else has an empty one, which takes no step
    while : ℕ → Expr → Stmt → Stmt
    for : ℕ → ℕ → Expr → Expr → Stmt → Stmt
    case : ℕ → Expr → Arms → Stmt
    call : ℕ → ℕ → List ℕ → Exprs → Stmt  -- a procedure's number, its parameters' types, the arguments
    raise : ℕ → Expr → Stmt
    skip : Stmt

  pub data Stmts : Type 0 where
    done : Stmts
    ◌next◌ : Stmt → Stmts → Stmts

  pub data Arms : Type 0 where
    else_arm : Stmt → Arms  -- else
    no_else : Arms  -- no else: Case_Error
    arm : List Const → Stmt → Arms → Arms

infixr 40 ◌next◌
-- a body: its statements, and the handler if it has one
pub record Body : Type 0 where
  pub stmts : Stmts
  pub handles : Bool
  pub handler : Stmts

-- what a `type` line declares
pub data Decl : Type 0 where
  alias : ℕ → Decl
  enum : Name → List Name → Decl  -- its first name and the others
  range : Const → Const → Decl
  array_of : ℕ → ℕ → Decl
  record_of : List (Name × ℕ) → Decl
  set_of : ℕ → Decl

-- a line with its names resolved
pub data Entry : Type 0 where
  new_type : Name → Decl → Entry
  new_var : Name → ℕ → Entry
  new_proc : Name → List (Name × ℕ) → Body → Entry  -- its parameters with their types
  new_main : Body → Entry
