use Rattle.rule_judge_loose.proofs.Easings.{with-fault-is}
use Rattle.rule_judge_loose.proofs.easing.with_fault.Goals as goal

pub returns : goal.returns
returns c = search with-fault-is
