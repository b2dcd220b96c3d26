use Rattle.table_order.specs.Ordered.{Ranks}
use Rattle.table_order.proofs.sort.Given as goal

abbrev pub invariant-loop-i : goal.invariant-loop-i
invariant-loop-i l = Ranks l.base l.initial.work l.work
