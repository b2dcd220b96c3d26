use Rattle.rule_expr_compounds.proofs.Targeting.{index-laws}
use Rattle.rule_expr_compounds.proofs.targets.index.Goals as goal

pub returns-then-is_clear : goal.returns-then-is_clear
returns-then-is_clear c = search index-laws

pub returns-else-is_clear : goal.returns-else-is_clear
returns-else-is_clear c = search index-laws
