use Rattle.table_order.specs.Ordered.{Ranks}
use Rattle.table_order.proofs.insert.Given as goal

abbrev pub invariant-loop-j : goal.invariant-loop-j
invariant-loop-j l = Ranks l.base l.initial.work l.work

abbrev pub decreases-loop-j : goal.decreases-loop-j
decreases-loop-j l = l.j
