-- The two sides of an operator, the second of them, and the node of both.
use Rattle.std.specs.Prelude.{List, ◌≡◌, ℕ}
use Rattle.std.proofs.Math.Option.{Option, some}
use Rattle.law.specs.Base.{◌>>=◌}
use Rattle.law.specs.Environment.{Environment}
use Rattle.law.specs.Syntax.{Expr, binary, short_circuit}
use Rattle.law.specs.Trees.{Trees, Run, first}
use Rattle.law_theorems.specs.Readings.{stack_at}
use Rattle.table_kinds.specs.Kinds.{TwoSided, strict, lazy, row_number}
use Rattle.text_heads.specs.Parts.{rest, closed, expr_in}
use Rattle.rule_faults.specs.declared.Got.{Got}
use Rattle.rule_expr_nodes.specs.Bracket.{Closes}
use Rattle.rule_expr_nodes.specs.Nodes.{Makes}
use Rattle.rule_expr_compounds.specs.Operators.{paired}
use Rattle.rule_expressions.specs.Walks.{Leaves, ExprTold, GivesExpr}
use Rattle.table_scope.specs.declared.Scope.{Scope}
use Rattle.table_scope.specs.Scene.{Scene}

-- a is the first side
pub record GivesSecond (s l ts : List ℕ) (scope : Scope) (op d : ℕ) (a r : Got) (l' : List ℕ) : Type 0 where
  pub side : Got
  pub list : List ℕ
  pub past : Got
  pub gives : GivesExpr s l ts scope d a.next a.top side list
  pub closes : Closes s side past
  pub makes : Makes (paired list ts op a past) r l'

-- the expression of an operator and two sides
abbrev pub of_sides : TwoSided → Expr → Expr → Expr
of_sides (strict o) a b = binary o a b
of_sides (lazy q) a b = short_circuit q a b

-- both sides, as the parts of a form, and nothing after them
abbrev pub two_in : TwoSided → ℕ → Trees Run → Option Expr
two_in o d us = expr_in d us >>= λ a. (expr_in d (rest us) >>= λ b. closed (rest (rest us)) b) >>= λ b. some (of_sides o a b)

-- of the operator that has row op in the table of kinds
pub record GivesTwo (s l ts : List ℕ) (scope : Scope) (op d at top : ℕ) (r : Got) (l' : List ℕ) : Type 0 where
  pub leaves : Leaves s at top l r l'
  pub says : (o : TwoSided) → op ≡ row_number o → (σ : Environment) (bs : List ℕ) → Scene s l ts scope top σ bs → ExprTold σ (two_in o d (first (stack_at s at))) top l r l'
