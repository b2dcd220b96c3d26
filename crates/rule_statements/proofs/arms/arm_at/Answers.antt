use Rattle.rule_statements.proofs.ArmWays.{comes-laws}
use Rattle.rule_statements.proofs.arms.arm_at.Goals as goal

pub returns-in-Leaf : goal.returns-in-Leaf
returns-in-Leaf c = search comes-laws

pub returns-in-Form : goal.returns-in-Form
returns-in-Form c = search comes-laws

pub returns-in-Shut : goal.returns-in-Shut
returns-in-Shut c = search comes-laws
