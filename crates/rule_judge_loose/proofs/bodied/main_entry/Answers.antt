use Rattle.rule_judge_loose.proofs.Dispatch.{main-entry-is}
use Rattle.rule_judge_loose.proofs.bodied.main_entry.Goals as goal

pub returns : goal.returns
returns c = search main-entry-is
