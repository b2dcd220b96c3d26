-- "The forms": what a line says, with its names as they stand. The operators and functions are those of Operators.
use Rattle.std.specs.Prelude.{Bool, List, ℕ, ℤ}
use Rattle.law.specs.Base.{Name}
use Rattle.law.specs.Operators.{Fun, Op}

pub data TypeName : Type 0 where
  integer boolean : TypeName
  declared : Name → TypeName

-- C: a number, `(- number)`, `true` or `false`, an enum name
pub data Constant : Type 0 where
  number minus : ℤ → Constant
  truth : Bool → Constant
  named : Name → Constant

mutual
  pub data Expr : Type 0 where
    const : Constant → Expr  -- a name alone is `named`, a variable's too
    read : Target → Expr  -- `at` and `dot`
    error_number : Expr
    members : TypeName → Exprs → Expr
    end_of : Bool → TypeName → Expr  -- first (false), last (true)
    binary : Op → Expr → Expr → Expr
    short_circuit : Bool → Expr → Expr → Expr  -- and_then (true), or_else (false)
    unary : Fun → Expr → Expr

  pub data Target : Type 0 where
    var : Name → Target
    at : Target → Expr → Target
    dot : Target → Name → Target

  pub data Exprs : Type 0 where
    nil : Exprs
    ◌and◌ : Expr → Exprs → Exprs

infixr 40 ◌and◌
-- each statement has its number
mutual
  pub data Stmt : Type 0 where
    assign : ℕ → Target → Expr → Stmt
    begin : ℕ → Stmts → Stmt
    if_else : ℕ → Expr → Stmt → Stmt → Stmt
    while : ℕ → Expr → Stmt → Stmt
    for : ℕ → Name → Expr → Expr → Stmt → Stmt
    case : ℕ → Expr → Arms → Stmt
    call : ℕ → Name → Exprs → Stmt
    raise : ℕ → Expr → Stmt
    skip : Stmt  -- the missing third part of an `if`

  pub data Stmts : Type 0 where
    done : Stmts
    ◌next◌ : Stmt → Stmts → Stmts

  pub data Arms : Type 0 where
    else_arm : Stmt → Arms
    no_else : Arms
    arm : List Constant → Stmt → Arms → Arms

infixr 40 ◌next◌
pub record Body : Type 0 where
  pub stmts : Stmts
  pub handles : Bool
  pub handler : Stmts

pub data TypeForm : Type 0 where
  alias : TypeName → TypeForm
  enum : Name → List Name → TypeForm  -- its first name and the others
  range : Constant → Constant → TypeForm
  array_of : TypeName → TypeName → TypeForm
  record_of : List (Name × TypeName) → TypeForm
  set_of : TypeName → TypeForm

pub data LineForm : Type 0 where
  type_line : Name → TypeForm → LineForm
  var_line : Name → TypeName → LineForm
  proc_line : Name → List (Name × TypeName) → Body → LineForm  -- its parameters: none, or one or more
  main_line : Body → LineForm
