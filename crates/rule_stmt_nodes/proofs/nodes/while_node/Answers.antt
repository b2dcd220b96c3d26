use Rattle.rule_stmt_nodes.proofs.Making.{while-is}
use Rattle.rule_stmt_nodes.proofs.nodes.while_node.Goals as goal

pub returns : goal.returns
returns c = search while-is
