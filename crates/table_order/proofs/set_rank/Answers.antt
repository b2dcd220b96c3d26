use Rattle.table_order.proofs.Ranking.{rank-set}
use Rattle.table_order.proofs.set_rank.Goals as goal

pub returns : goal.returns
returns c = search rank-set
