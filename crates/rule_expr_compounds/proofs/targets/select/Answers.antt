use Rattle.rule_expr_compounds.proofs.Targeting.{select-laws}
use Rattle.rule_expr_compounds.proofs.targets.select.Goals as goal

pub returns-then-i-eq3 : goal.returns-then-i-eq3
returns-then-i-eq3 c = search select-laws

pub returns-else-i-eq3 : goal.returns-else-i-eq3
returns-else-i-eq3 c = search select-laws
