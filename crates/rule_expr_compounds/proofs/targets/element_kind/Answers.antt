use Rattle.rule_expr_compounds.proofs.Targeting.{kind-laws}
use Rattle.rule_expr_compounds.proofs.targets.element_kind.Goals as goal

pub returns-then-i-eq2 : goal.returns-then-i-eq2
returns-then-i-eq2 c = search kind-laws

pub returns-else-i-eq2 : goal.returns-else-i-eq2
returns-else-i-eq2 c = search kind-laws
