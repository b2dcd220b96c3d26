use Rattle.rule_expr_nodes.proofs.Making.{node-is}
use Rattle.rule_expr_nodes.proofs.nodes.node.Goals as goal

pub returns : goal.returns
returns c = search node-is
