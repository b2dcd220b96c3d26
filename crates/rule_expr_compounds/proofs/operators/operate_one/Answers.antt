use Rattle.rule_expr_compounds.proofs.Operating.{apply-laws}
use Rattle.rule_expr_compounds.proofs.operators.operate_one.Goals as goal

pub returns-in-None : goal.returns-in-None
returns-in-None c = search apply-laws

pub returns-in-Some : goal.returns-in-Some
returns-in-Some c = search apply-laws
