use borrow.Author.Rules.{rules}
use Rattle.rule_stores.proofs.Ways.{find-early, find_laws, find-start}
use Rattle.rule_stores.proofs.field_cell.Goals as goal

pub overflow_add-p : goal.overflow_add-p
overflow_add-p c = search (find-early, rules)

pub loop-k-init : goal.loop-k-init
loop-k-init c = find-start _ _ _ _ _ (search rules) (search rules)

pub overflow_add-p-in-loop-k : goal.overflow_add-p-in-loop-k
overflow_add-p-in-loop-k c = search (find-early, rules)

pub returns-then-i-x : goal.returns-then-i-x
returns-then-i-x c = search find_laws

pub overflow_add-p-in-loop-k-2 : goal.overflow_add-p-in-loop-k-2
overflow_add-p-in-loop-k-2 c = search (find-early, rules)

pub loop-k-preserved : goal.loop-k-preserved
loop-k-preserved c = search find_laws

pub returns : goal.returns
returns c = search find_laws
