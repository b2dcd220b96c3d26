use Rattle.rule_statements.proofs.ArmWays.{link-arm-is}
use Rattle.rule_statements.proofs.arms.link_arm.Goals as goal

pub returns : goal.returns
returns c = search link-arm-is
