use Rattle.table_names.proofs.Names.{Seeking}
use Rattle.table_names.proofs.seek.Given as goal

abbrev pub invariant-loop-n : goal.invariant-loop-n
invariant-loop-n l = Seeking l.work l.key l.count l.newest l.n l.p

abbrev pub decreases-loop-n : goal.decreases-loop-n
decreases-loop-n l = l.n
