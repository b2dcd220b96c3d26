use Rattle.rule_restrictions.proofs.ArmLabels.{arm-laws}
use Rattle.rule_restrictions.proofs.arm_parts.arm_part.Goals as goal

pub returns-in-Some : goal.returns-in-Some
returns-in-Some c = search arm-laws

pub returns-in-None : goal.returns-in-None
returns-in-None c = search arm-laws
