use Rattle.rule_judge_loose.proofs.Dispatch.{main-enters}
use Rattle.rule_judge_loose.proofs.bodied.main_line.Goals as goal

pub returns : goal.returns
returns c = search main-enters
