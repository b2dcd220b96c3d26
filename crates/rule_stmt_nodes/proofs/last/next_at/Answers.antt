use Rattle.rule_stmt_nodes.proofs.Following.{next_laws}
use Rattle.rule_stmt_nodes.proofs.last.next_at.Goals as goal

pub returns-in-Leaf : goal.returns-in-Leaf
returns-in-Leaf c = search next_laws
