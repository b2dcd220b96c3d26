use Rattle.rule_expr_nodes.proofs.CellsMaking.{cells_laws}
use Rattle.rule_expr_nodes.proofs.cells.cells.Goals as goal

pub returns-then-size-eq1 : goal.returns-then-size-eq1
returns-then-size-eq1 c = search cells_laws

pub returns-else-size-eq1 : goal.returns-else-size-eq1
returns-else-size-eq1 c = search cells_laws
