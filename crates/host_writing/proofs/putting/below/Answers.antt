use borrow.Author.Rules.{sfits_of}
use Rattle.host_writing.proofs.Integers.{below_laws}
use borrow.Author.Rules.{rules}
use Rattle.host_writing.proofs.putting.below.Goals as goal

pub overflow_add-result : goal.overflow_add-result
overflow_add-result c = search (below_laws, sfits_of, rules)

pub returns : goal.returns
returns c = search (below_laws, sfits_of, rules)
