use Rattle.rule_restrictions.proofs.Controlling.{start_laws}
use Rattle.rule_restrictions.proofs.control.start_at.Goals as goal

pub returns-in-Leaf : goal.returns-in-Leaf
returns-in-Leaf c = search start_laws

pub returns-in_default : goal.returns-in_default
returns-in_default c = search start_laws
