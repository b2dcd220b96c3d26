use Rattle.table_bodies.proofs.Clipping.{Clipping}
use Rattle.table_bodies.proofs.clip_types.Given as goal

abbrev pub invariant-loop-i : goal.invariant-loop-i
invariant-loop-i l = Clipping l.types l.n l.initial.to l.i l.to
