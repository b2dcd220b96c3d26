use Rattle.rule_stmt_nodes.proofs.Following.{plain-is}
use Rattle.rule_stmt_nodes.proofs.last.plain_node.Goals as goal

pub returns : goal.returns
returns c = search plain-is
