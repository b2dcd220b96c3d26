use Rattle.rule_judge_loose.proofs.Dispatch.{proc-line-laws}
use Rattle.rule_judge_loose.proofs.bodied.proc_line.Goals as goal

pub returns-in-Some : goal.returns-in-Some
returns-in-Some c = search proc-line-laws

pub returns-in-None : goal.returns-in-None
returns-in-None c = search proc-line-laws
