-- `-` where it is no negative number.
use Rattle.std.specs.Prelude.{List, ℕ, None}
use Rattle.text_heads.specs.declared.ExprHead.TheVariants.{Minus}
use Rattle.rule_faults.specs.declared.Got.{Got}
use Rattle.rule_expressions.specs.Walks.{GivesForm}
use Rattle.rule_expr_leaves.specs.Words.{StandsAlone}
use Rattle.table_scope.specs.declared.Scope.{Scope}

pub record GivesMinus (s l ts : List ℕ) (scope : Scope) (d at top : ℕ) (g : Got) (l' : List ℕ) : Type 0 where
  pub gives : StandsAlone s at None → GivesForm s l ts scope Minus d at top g l'
