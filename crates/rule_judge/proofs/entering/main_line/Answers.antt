use Rattle.rule_judge.proofs.Dispatch.{main-line-is}
use Rattle.rule_judge.proofs.entering.main_line.Goals as goal

pub returns : goal.returns
returns c = search main-line-is
