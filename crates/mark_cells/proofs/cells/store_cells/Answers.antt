use borrow.Author.Rules.{sfits_of}
use Rattle.mark_cells.proofs.Stored.{cells-copied}
use Rattle.mark_cells.proofs.cells.store_cells.Goals as goal

pub returns : goal.returns
returns c = search (cells-copied, sfits_of)
