use Rattle.rule_restrictions.proofs.Controlling.{free_laws}
use Rattle.rule_restrictions.proofs.control.free_at.Goals as goal

pub returns-in-Leaf : goal.returns-in-Leaf
returns-in-Leaf c = search free_laws

pub returns-in_default : goal.returns-in_default
returns-in_default c = search free_laws
