use Rattle.rule_stores.proofs.Testing.{owner-found}
use Rattle.rule_stores.proofs.owner.Goals as goal

pub returns : goal.returns
returns c = search owner-found
