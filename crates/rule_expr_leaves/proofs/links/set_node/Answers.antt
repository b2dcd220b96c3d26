use Rattle.rule_expr_leaves.proofs.Linking.{set-node-laws}
use Rattle.rule_expr_leaves.proofs.links.set_node.Goals as goal

pub returns-then-i-eq1 : goal.returns-then-i-eq1
returns-then-i-eq1 c = search set-node-laws

pub returns-else-i-eq1 : goal.returns-else-i-eq1
returns-else-i-eq1 c = search set-node-laws
