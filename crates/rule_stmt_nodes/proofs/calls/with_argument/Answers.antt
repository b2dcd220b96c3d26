use Rattle.rule_stmt_nodes.proofs.Calling.{with-argument-is}
use Rattle.rule_stmt_nodes.proofs.calls.with_argument.Goals as goal

pub returns : goal.returns
returns c = search with-argument-is
