use borrow.Author.Rules.{sfits_of}
use Rattle.host_writing.proofs.Writing.{exception-is}
use Rattle.host_writing.proofs.rows.exception.Goals as goal

pub returns : goal.returns
returns c = search (exception-is, sfits_of)
