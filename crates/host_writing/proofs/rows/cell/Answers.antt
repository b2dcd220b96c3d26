use borrow.Author.Rules.{sfits_of}
use Rattle.host_writing.proofs.Writing.{cell-is}
use Rattle.host_writing.proofs.rows.cell.Goals as goal

pub returns : goal.returns
returns c = search (cell-is, sfits_of)
