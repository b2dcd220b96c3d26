use Rattle.rule_statements.proofs.ArmWays.{end_is}
use Rattle.rule_statements.proofs.arms.case_end.Goals as goal

pub returns : goal.returns
returns c = search end_is
