use Rattle.rule_expr_compounds.proofs.Operating.{operate-laws}
use Rattle.rule_expr_compounds.proofs.operators.operate.Goals as goal

pub returns-in-None : goal.returns-in-None
returns-in-None c = search operate-laws

pub returns-in-Some : goal.returns-in-Some
returns-in-Some c = search operate-laws
