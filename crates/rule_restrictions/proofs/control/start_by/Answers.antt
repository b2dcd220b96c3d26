use Rattle.rule_restrictions.proofs.Controlling.{start_by_laws}
use Rattle.rule_restrictions.proofs.control.start_by.Goals as goal

pub returns-in-Var : goal.returns-in-Var
returns-in-Var c = search start_by_laws

pub returns-in_default : goal.returns-in_default
returns-in_default c = search start_by_laws
