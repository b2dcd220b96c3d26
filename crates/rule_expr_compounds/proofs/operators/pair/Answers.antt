use Rattle.rule_expr_compounds.proofs.Operating.{pair-laws}
use Rattle.rule_expr_compounds.proofs.operators.pair.Goals as goal

pub returns-then-is_clear : goal.returns-then-is_clear
returns-then-is_clear c = search pair-laws

pub returns-else-is_clear : goal.returns-else-is_clear
returns-else-is_clear c = search pair-laws
