use Rattle.mark_cells.proofs.Storing.{Back}
use Rattle.mark_cells.proofs.cells.copy_down.Given as goal

abbrev pub invariant-loop-i : goal.invariant-loop-i
invariant-loop-i l = Back l.initial.store l.s l.a l.k l.i l.store
