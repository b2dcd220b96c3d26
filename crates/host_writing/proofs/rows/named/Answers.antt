use borrow.Author.Rules.{sfits_of}
use Rattle.host_writing.proofs.Writing.{named-is}
use Rattle.host_writing.proofs.rows.named.Goals as goal

pub returns : goal.returns
returns c = search (named-is, sfits_of)
