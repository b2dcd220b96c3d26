use Rattle.rule_stmt_nodes.proofs.Making.{if-is}
use Rattle.rule_stmt_nodes.proofs.nodes.if_node.Goals as goal

pub returns : goal.returns
returns c = search if-is
