use Rattle.rule_stmt_nodes.proofs.BaseMaking.{node_laws}
use Rattle.rule_stmt_nodes.proofs.base.node_if.Goals as goal

pub returns-then-is_clear : goal.returns-then-is_clear
returns-then-is_clear c = search node_laws
