use Rattle.rule_stores.proofs.Ways.{begins-is}
use Rattle.rule_stores.proofs.begins_at.Goals as goal

pub returns : goal.returns
returns c = search begins-is
