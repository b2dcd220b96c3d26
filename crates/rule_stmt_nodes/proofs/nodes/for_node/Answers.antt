use Rattle.rule_stmt_nodes.proofs.Making.{for-control}
use Rattle.rule_stmt_nodes.proofs.nodes.for_node.Goals as goal

pub returns : goal.returns
returns c = search for-control
