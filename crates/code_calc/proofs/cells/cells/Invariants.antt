use Rattle.code_calc.proofs.Leaves.{Left}
use Rattle.code_calc.proofs.cells.cells.Given as goal

abbrev pub invariant-loop-i : goal.invariant-loop-i
invariant-loop-i l = Left l.store l.a l.n l.i
