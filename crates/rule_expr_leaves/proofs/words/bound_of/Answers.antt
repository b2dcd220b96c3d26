use Rattle.rule_expr_leaves.proofs.WordsMaking.{bound-of-laws}
use Rattle.rule_expr_leaves.proofs.words.bound_of.Goals as goal

pub returns-then-is_clear : goal.returns-then-is_clear
returns-then-is_clear c = search bound-of-laws

pub returns-else-is_clear : goal.returns-else-is_clear
returns-else-is_clear c = search bound-of-laws
