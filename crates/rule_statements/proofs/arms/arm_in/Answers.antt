use Rattle.rule_statements.proofs.ArmWays.{inside-laws}
use Rattle.rule_statements.proofs.arms.arm_in.Goals as goal

pub returns-in-Arm : goal.returns-in-Arm
returns-in-Arm c = search inside-laws

pub returns-in-Else : goal.returns-in-Else
returns-in-Else c = search inside-laws

pub returns-in-Nothing : goal.returns-in-Nothing
returns-in-Nothing c = search inside-laws

pub returns-in_default : goal.returns-in_default
returns-in_default c = search inside-laws
