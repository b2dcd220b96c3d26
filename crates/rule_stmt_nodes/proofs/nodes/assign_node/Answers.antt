use Rattle.rule_stmt_nodes.proofs.Making.{assign_laws}
use Rattle.rule_stmt_nodes.proofs.nodes.assign_node.Goals as goal

pub returns-then-is_clear : goal.returns-then-is_clear
returns-then-is_clear c = search assign_laws
