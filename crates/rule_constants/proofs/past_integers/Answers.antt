use Rattle.rule_constants.proofs.Scanning.{past_is}
use Rattle.rule_constants.proofs.past_integers.Goals as goal

pub returns : goal.returns
returns c = search past_is
