use Rattle.rule_statements.proofs.ArmWays.{ordinal-laws}
use Rattle.rule_statements.proofs.arms.ordinal_fault.Goals as goal

pub returns-then-i-eq0 : goal.returns-then-i-eq0
returns-then-i-eq0 c = search ordinal-laws

pub returns-else-i-eq0 : goal.returns-else-i-eq0
returns-else-i-eq0 c = search ordinal-laws
