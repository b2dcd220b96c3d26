use Rattle.rule_statements.proofs.ArmWays.{case-is}
use Rattle.rule_statements.proofs.arms.case_node.Goals as goal

pub returns : goal.returns
returns c = search case-is
