use Rattle.table_order.proofs.Ranking.{Finding}
use Rattle.table_order.proofs.all_found.Given as goal

abbrev pub invariant-loop-i : goal.invariant-loop-i
invariant-loop-i l = Finding l.text l.work l.place l.n l.base l.i
