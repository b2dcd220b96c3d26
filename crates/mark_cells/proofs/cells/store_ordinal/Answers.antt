use Rattle.mark_cells.proofs.Stored.{ordinal_laws}
use Rattle.mark_cells.proofs.cells.store_ordinal.Goals as goal

pub returns-then-in_range : goal.returns-then-in_range
returns-then-in_range c = search ordinal_laws

pub returns-else-in_range : goal.returns-else-in_range
returns-else-in_range c = search ordinal_laws
