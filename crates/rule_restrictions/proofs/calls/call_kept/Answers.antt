use Rattle.rule_restrictions.proofs.Arguments.{call_laws}
use Rattle.rule_restrictions.proofs.calls.call_kept.Goals as goal

pub returns-in-Leaf : goal.returns-in-Leaf
returns-in-Leaf c = search call_laws

pub returns-in_default : goal.returns-in_default
returns-in_default c = search call_laws
