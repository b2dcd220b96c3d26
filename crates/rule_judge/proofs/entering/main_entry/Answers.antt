use Rattle.rule_judge.proofs.Dispatch.{main-entry-is}
use Rattle.rule_judge.proofs.entering.main_entry.Goals as goal

pub returns : goal.returns
returns c = search main-entry-is
