use Rattle.rule_statements.proofs.ArmWays.{first-laws}
use Rattle.rule_statements.proofs.arms.first_fault.Goals as goal

pub returns-in-Arm : goal.returns-in-Arm
returns-in-Arm c = search first-laws

pub returns-in_default : goal.returns-in_default
returns-in_default c = search first-laws
