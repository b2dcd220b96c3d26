use Rattle.rule_judge_loose.proofs.Dispatch.{listed-so}
use Rattle.rule_judge_loose.proofs.bodied.proc_listed.Goals as goal

pub returns : goal.returns
returns c = search listed-so
