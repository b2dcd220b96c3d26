use Rattle.rule_judge_loose.proofs.Dispatch.{proc-entry-is}
use Rattle.rule_judge_loose.proofs.bodied.proc_entry.Goals as goal

pub returns : goal.returns
returns c = search proc-entry-is
