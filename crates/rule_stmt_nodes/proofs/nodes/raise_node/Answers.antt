use Rattle.rule_stmt_nodes.proofs.Making.{raise-is}
use Rattle.rule_stmt_nodes.proofs.nodes.raise_node.Goals as goal

pub returns : goal.returns
returns c = search raise-is
