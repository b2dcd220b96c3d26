use Rattle.mark_cells.proofs.Storing.{Onward}
use Rattle.mark_cells.proofs.cells.copy_up.Given as goal

abbrev pub invariant-loop-i : goal.invariant-loop-i
invariant-loop-i l = Onward l.initial.store l.s l.a l.k l.i l.store
