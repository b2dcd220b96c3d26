use Rattle.table_list.proofs.Laying.{Laying}
use Rattle.table_list.proofs.lay.Given as goal

abbrev pub invariant-loop-i : goal.invariant-loop-i
invariant-loop-i l = Laying l.initial.work l.ns l.top l.work l.i
