use borrow.Author.Rules.{sfits_of}
use Rattle.host_writing.proofs.Writing.{value-laws}
use Rattle.host_writing.proofs.rows.value.Goals as goal

pub returns-then-mark-eq0 : goal.returns-then-mark-eq0
returns-then-mark-eq0 c = search (value-laws, sfits_of)

pub returns : goal.returns
returns c = search (value-laws, sfits_of)
