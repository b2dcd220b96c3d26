use Rattle.rule_judge_loose.proofs.Dispatch.{proc-declared}
use Rattle.rule_judge_loose.proofs.bodied.proc_end.Goals as goal

pub returns : goal.returns
returns c = search proc-declared
