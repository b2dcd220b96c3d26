use Rattle.table_names.proofs.Ordering.{rank_is}
use Rattle.table_names.proofs.blocks.rank_at.Goals as goal

pub returns : goal.returns
returns c = search rank_is
