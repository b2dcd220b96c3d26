use Rattle.rule_texts.proofs.Leaves.{start_is}
use Rattle.rule_texts.proofs.nothing_known.Goals as goal

pub returns : goal.returns
returns c = search start_is
