use Rattle.rule_stores.proofs.Ways.{Finding}
use Rattle.rule_stores.proofs.field_cell.Given as goal

abbrev pub invariant-loop-k : goal.invariant-loop-k
invariant-loop-k l = Finding l.work l.types l.place l.fields l.cell l._k l.p l.i
