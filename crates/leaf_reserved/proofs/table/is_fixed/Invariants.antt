use Rattle.leaf_reserved.proofs.Places.{Spells}
use Rattle.leaf_reserved.proofs.table.is_fixed.Given as goal

abbrev pub invariant-loop-i : goal.invariant-loop-i
invariant-loop-i l = Spells l.w l.k l.i
