use borrow.Author.Rules.{sfits_of}
use Rattle.mark_cells.proofs.Stored.{one-put}
use Rattle.mark_cells.proofs.cells.store_one.Goals as goal

pub returns : goal.returns
returns c = search (one-put, sfits_of)
