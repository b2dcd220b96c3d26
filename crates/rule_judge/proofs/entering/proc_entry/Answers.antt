use Rattle.rule_judge.proofs.Dispatch.{proc-entry-is}
use Rattle.rule_judge.proofs.entering.proc_entry.Goals as goal

pub returns : goal.returns
returns c = search proc-entry-is
