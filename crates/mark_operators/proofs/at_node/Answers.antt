use Rattle.mark_operators.proofs.Operating.{node_laws}
use Rattle.mark_operators.proofs.at_node.Goals as goal

pub returns-in-38 : goal.returns-in-38
returns-in-38 c = search node_laws

pub returns-in-39 : goal.returns-in-39
returns-in-39 c = search node_laws

pub returns-in_default : goal.returns-in_default
returns-in_default c = search node_laws
