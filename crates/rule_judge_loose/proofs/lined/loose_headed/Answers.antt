use Rattle.rule_judge_loose.proofs.Dispatch.{headed-is}
use Rattle.rule_judge_loose.proofs.lined.loose_headed.Goals as goal

pub returns : goal.returns
returns c = search headed-is
