use borrow.Author.Rules.{rules}
use Rattle.host_writing.proofs.Writing.{small-laws, still-long, still-start}
use Rattle.host_writing.proofs.putting.put_small.Goals as goal

pub loop-b-init : goal.loop-b-init
loop-b-init c = still-start _ _ _

pub loop-b-preserved : goal.loop-b-preserved
loop-b-preserved c = search small-laws

pub shape_of-out : goal.shape_of-out
shape_of-out c = search (still-long, rules)

pub returns : goal.returns
returns c = search small-laws
