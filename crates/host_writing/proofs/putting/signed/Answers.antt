use borrow.Author.Rules.{sfits_of}
use Rattle.host_writing.proofs.Writing.{signed-laws}
use Rattle.host_writing.proofs.putting.signed.Goals as goal

pub returns-then-z-lt0 : goal.returns-then-z-lt0
returns-then-z-lt0 c = search (signed-laws, sfits_of)

pub returns : goal.returns
returns c = search (signed-laws, sfits_of)
