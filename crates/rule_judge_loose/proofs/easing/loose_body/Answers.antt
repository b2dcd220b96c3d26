use Rattle.rule_judge_loose.proofs.Easings.{body-eased}
use Rattle.rule_judge_loose.proofs.easing.loose_body.Goals as goal

pub returns : goal.returns
returns c = search body-eased
