use borrow.Author.Rules.{rules}
use Rattle.table_names.proofs.Names.{compare-falls, compare-laws, compare-left, compare-right, compare-start}
use Rattle.table_names.proofs.same_word.Goals as goal

pub loop-p-init : goal.loop-p-init
loop-p-init c = compare-start _ _ _

pub overflow_add-p : goal.overflow_add-p
overflow_add-p c = search (compare-left, rules)

pub overflow_add-q : goal.overflow_add-q
overflow_add-q c = search (compare-right, rules)

pub loop-p-smaller : goal.loop-p-smaller
loop-p-smaller c = search compare-falls

pub loop-p-preserved : goal.loop-p-preserved
loop-p-preserved c = search compare-laws

pub returns-in-End : goal.returns-in-End
returns-in-End c = search compare-laws

pub returns-in-Differ : goal.returns-in-Differ
returns-in-Differ c = search compare-laws
