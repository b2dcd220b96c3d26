use Rattle.rule_judge.proofs.Dispatch.{listed-so}
use Rattle.rule_judge.proofs.entering.proc_listed.Goals as goal

pub returns : goal.returns
returns c = search listed-so
