use Rattle.table_scope.proofs.Looping.{Comparing}
use Rattle.table_scope.proofs.loops_over.Given as goal

abbrev pub invariant-loop-j : goal.invariant-loop-j
invariant-loop-j l = Comparing l.over l.i l.j
