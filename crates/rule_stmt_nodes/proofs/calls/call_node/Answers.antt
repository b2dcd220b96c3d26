use Rattle.rule_stmt_nodes.proofs.Calling.{call-is}
use Rattle.rule_stmt_nodes.proofs.calls.call_node.Goals as goal

pub returns : goal.returns
returns c = search call-is
