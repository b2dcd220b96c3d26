use Rattle.rule_cells.specs.Cells.{Named}
use Rattle.rule_cells.proofs.name_cells.Given as goal

abbrev pub invariant-loop-i : goal.invariant-loop-i
invariant-loop-i l = Named l.work l.types l.st l.i l.initial.names l.names
