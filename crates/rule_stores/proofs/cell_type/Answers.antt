use Rattle.rule_stores.proofs.Ways.{type-is}
use Rattle.rule_stores.proofs.cell_type.Goals as goal

pub returns : goal.returns
returns c = search type-is
