use Rattle.rule_restrictions.proofs.ArmLabels.{label-laws}
use Rattle.rule_restrictions.proofs.arm_parts.label_at.Goals as goal

pub returns-then-plain_part : goal.returns-then-plain_part
returns-then-plain_part c = search label-laws

pub returns-else-plain_part : goal.returns-else-plain_part
returns-else-plain_part c = search label-laws
