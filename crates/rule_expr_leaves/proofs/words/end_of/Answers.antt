use Rattle.rule_expr_leaves.proofs.WordsMaking.{end-laws}
use Rattle.rule_expr_leaves.proofs.words.end_of.Goals as goal

pub returns-then-i-eq0 : goal.returns-then-i-eq0
returns-then-i-eq0 c = search end-laws

pub returns-else-i-eq0 : goal.returns-else-i-eq0
returns-else-i-eq0 c = search end-laws
