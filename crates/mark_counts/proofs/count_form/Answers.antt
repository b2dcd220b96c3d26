use borrow.Author.Rules.{rules}
use Rattle.mark_counts.proofs.Counting.{count-falls, count-laws, count_room, count-start}
use Rattle.mark_counts.proofs.count_form.Goals as goal

pub loop-q-init : goal.loop-q-init
loop-q-init c = search count-start

pub step-requires : goal.step-requires
step-requires c = search (count_room, rules)

pub loop-q-smaller : goal.loop-q-smaller
loop-q-smaller c = search count-falls

pub loop-q-preserved : goal.loop-q-preserved
loop-q-preserved c = search count-laws

pub returns-in_default : goal.returns-in_default
returns-in_default c = search count-laws
