use Rattle.rule_expr_leaves.proofs.WordsMaking.{named-laws}
use Rattle.rule_expr_leaves.proofs.words.named.Goals as goal

pub returns-in-Var : goal.returns-in-Var
returns-in-Var c = search named-laws

pub returns-in-Value : goal.returns-in-Value
returns-in-Value c = search named-laws
