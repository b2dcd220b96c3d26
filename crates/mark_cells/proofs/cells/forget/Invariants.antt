use Rattle.mark_cells.specs.Cells.{Forgets}
use Rattle.mark_cells.proofs.cells.forget.Given as goal

abbrev pub invariant-loop-i : goal.invariant-loop-i
invariant-loop-i l = Forgets l.initial.store l.a l.i l.store
