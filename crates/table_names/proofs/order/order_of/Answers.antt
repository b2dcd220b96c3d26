use borrow.Author.Rules.{rules}
use Rattle.table_names.proofs.Ordering.{order-falls, order_laws, order-left, order-right, order-start}
use Rattle.table_names.proofs.order.order_of.Goals as goal

pub loop-p-init : goal.loop-p-init
loop-p-init c = order-start _ _ _

pub overflow_add-p : goal.overflow_add-p
overflow_add-p c = search (order-left, rules)

pub overflow_add-q : goal.overflow_add-q
overflow_add-q c = search (order-right, rules)

pub loop-p-smaller : goal.loop-p-smaller
loop-p-smaller c = search order-falls

pub loop-p-preserved : goal.loop-p-preserved
loop-p-preserved c = search order_laws

pub returns-in-End : goal.returns-in-End
returns-in-End c = search order_laws

pub returns-in-Differ : goal.returns-in-Differ
returns-in-Differ c = search order_laws
