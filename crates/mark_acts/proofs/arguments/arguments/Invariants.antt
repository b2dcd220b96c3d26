use Rattle.mark_acts.proofs.Arguing.{Sofar}
use Rattle.mark_acts.proofs.arguments.arguments.Given as goal

abbrev pub invariant-loop-j : goal.invariant-loop-j
invariant-loop-j l = Sofar l.tables.text.now l.tables.work.now l.tables.types.now l.store l.tables.scope l.x l.at l.p l.initial.words l.words l.j
