use Rattle.host_writing.proofs.Writing.{put-laws}
use borrow.Author.Rules.{rules}
use Rattle.host_writing.proofs.putting.put.Goals as goal

pub returns-then-at-out : goal.returns-then-at-out
returns-then-at-out c = search (put-laws, rules)

pub returns : goal.returns
returns c = search (put-laws, rules)
