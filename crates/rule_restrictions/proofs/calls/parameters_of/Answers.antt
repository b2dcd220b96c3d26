use Rattle.rule_restrictions.proofs.Arguments.{parameters_laws}
use Rattle.rule_restrictions.proofs.calls.parameters_of.Goals as goal

pub returns-in-Proc : goal.returns-in-Proc
returns-in-Proc c = search parameters_laws

pub returns-in_default : goal.returns-in_default
returns-in_default c = search parameters_laws
