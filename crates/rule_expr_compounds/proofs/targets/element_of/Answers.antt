use Rattle.rule_expr_compounds.proofs.Targeting.{element_laws}
use Rattle.rule_expr_compounds.proofs.targets.element_of.Goals as goal

pub returns : goal.returns
returns c = search element_laws
