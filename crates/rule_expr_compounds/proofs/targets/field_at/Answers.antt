use Rattle.rule_expr_compounds.proofs.Targeting.{field_laws}
use Rattle.rule_expr_compounds.proofs.targets.field_at.Goals as goal

pub returns-then-p-eq0 : goal.returns-then-p-eq0
returns-then-p-eq0 c = search field_laws

pub returns-then-is_clear : goal.returns-then-is_clear
returns-then-is_clear c = search field_laws

pub returns-else-is_clear : goal.returns-else-is_clear
returns-else-is_clear c = search field_laws
