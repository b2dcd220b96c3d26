use Rattle.rule_stmt_nodes.proofs.Following.{handled-is}
use Rattle.rule_stmt_nodes.proofs.last.handled_node.Goals as goal

pub returns : goal.returns
returns c = search handled-is
