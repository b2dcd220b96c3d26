use Rattle.table_order.proofs.Ranking.{marking-found}
use Rattle.table_order.proofs.mark.Goals as goal

pub returns-else-not-all_found : goal.returns-else-not-all_found
returns-else-not-all_found c = search marking-found
