use Rattle.rule_stores.proofs.Ways.{Seeking}
use Rattle.rule_stores.proofs.holder_of.Given as goal

abbrev pub invariant-loop-k : goal.invariant-loop-k
invariant-loop-k l = Seeking l.work l.count l.newest l.cell l._k l.p
