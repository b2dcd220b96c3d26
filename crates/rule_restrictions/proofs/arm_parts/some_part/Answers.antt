use Rattle.rule_restrictions.proofs.ArmLabels.{some-laws}
use Rattle.rule_restrictions.proofs.arm_parts.some_part.Goals as goal

pub returns-in-Some : goal.returns-in-Some
returns-in-Some c = search some-laws

pub returns-in-None : goal.returns-in-None
returns-in-None c = search some-laws
