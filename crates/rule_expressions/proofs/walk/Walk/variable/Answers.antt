use Rattle.rule_expressions.proofs.WordsTelling.{var-laws}
use Rattle.rule_expressions.proofs.walk.Walk.variable.Goals as goal

pub returns-in-Named : goal.returns-in-Named
returns-in-Named c = search var-laws

pub returns-in_default : goal.returns-in_default
returns-in_default c = search var-laws
