use Rattle.table_order.proofs.Ranking.{finding-laws}
use Rattle.table_order.proofs.all_found.Goals as goal

pub loop-i-preserved : goal.loop-i-preserved
loop-i-preserved c = search finding-laws
