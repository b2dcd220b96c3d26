use Rattle.rule_expr_leaves.proofs.Linking.{set-laws}
use Rattle.rule_expr_leaves.proofs.links.set_of.Goals as goal

pub returns-then-is_clear : goal.returns-then-is_clear
returns-then-is_clear c = search set-laws

pub returns-else-is_clear : goal.returns-else-is_clear
returns-else-is_clear c = search set-laws
