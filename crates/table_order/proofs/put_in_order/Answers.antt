use Rattle.table_order.proofs.Ranking.{ordered-is, ordered-not}
use Rattle.table_order.proofs.put_in_order.Goals as goal

pub returns-then-place-lt-PLACES : goal.returns-then-place-lt-PLACES
returns-then-place-lt-PLACES c = search ordered-is

pub returns-else-place-lt-PLACES : goal.returns-else-place-lt-PLACES
returns-else-place-lt-PLACES c = search ordered-not
