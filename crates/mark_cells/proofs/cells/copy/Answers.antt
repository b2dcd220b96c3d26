use Rattle.mark_cells.proofs.Storing.{copy_laws}
use Rattle.mark_cells.proofs.cells.copy.Goals as goal

pub returns-then-a-s : goal.returns-then-a-s
returns-then-a-s c = search copy_laws

pub returns-else-a-s : goal.returns-else-a-s
returns-else-a-s c = search copy_laws
