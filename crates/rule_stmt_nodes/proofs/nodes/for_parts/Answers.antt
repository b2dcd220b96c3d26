use Rattle.rule_stmt_nodes.proofs.Making.{for-is}
use Rattle.rule_stmt_nodes.proofs.nodes.for_parts.Goals as goal

pub returns : goal.returns
returns c = search for-is
