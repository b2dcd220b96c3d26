use Rattle.rule_stmt_nodes.proofs.Making.{begin-is}
use Rattle.rule_stmt_nodes.proofs.nodes.begin_node.Goals as goal

pub returns : goal.returns
returns c = search begin-is
