use Rattle.rule_expr_compounds.proofs.Targeting.{load-laws}
use Rattle.rule_expr_compounds.proofs.targets.load.Goals as goal

pub returns-then-is_clear : goal.returns-then-is_clear
returns-then-is_clear c = search load-laws

pub returns-else-is_clear : goal.returns-else-is_clear
returns-else-is_clear c = search load-laws
