use Rattle.table_names.proofs.Ordering.{first-is}
use Rattle.table_names.proofs.blocks.first_value.Goals as goal

pub returns : goal.returns
returns c = search first-is
