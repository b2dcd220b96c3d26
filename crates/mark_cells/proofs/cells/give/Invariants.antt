use Rattle.mark_cells.specs.Cells.{Gives}
use Rattle.mark_cells.proofs.cells.give.Given as goal

abbrev pub invariant-loop-i : goal.invariant-loop-i
invariant-loop-i l = Gives l.initial.store l.a l.i l.words l.store
