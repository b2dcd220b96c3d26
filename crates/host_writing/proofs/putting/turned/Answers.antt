use borrow.Author.Rules.{rules}
use Rattle.host_writing.proofs.Integers.{turned-fits, turned-is}
use Rattle.host_writing.proofs.putting.turned.Goals as goal

pub overflow_sub-result : goal.overflow_sub-result
overflow_sub-result c = search (turned-fits, turned-is, rules)

pub returns : goal.returns
returns c = search (turned-fits, turned-is, rules)
