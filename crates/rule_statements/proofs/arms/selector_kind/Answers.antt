use Rattle.rule_statements.proofs.ArmWays.{kind-laws}
use Rattle.rule_statements.proofs.arms.selector_kind.Goals as goal

pub returns-then-is_clear : goal.returns-then-is_clear
returns-then-is_clear c = search kind-laws

pub returns-else-is_clear : goal.returns-else-is_clear
returns-else-is_clear c = search kind-laws
