use Rattle.rule_judge.proofs.Dispatch.{proc-end-laws}
use Rattle.rule_judge.proofs.entering.proc_end.Goals as goal

pub returns-then-is_clear : goal.returns-then-is_clear
returns-then-is_clear c = search proc-end-laws

pub returns : goal.returns
returns c = search proc-end-laws
