use borrow.Author.Rules.{sfits_of}
use Rattle.host_writing.proofs.Writing.{at-is}
use Rattle.host_writing.proofs.rows.cell_at.Goals as goal

pub returns : goal.returns
returns c = search (at-is, sfits_of)
