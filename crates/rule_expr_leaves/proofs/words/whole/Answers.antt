use Rattle.rule_expr_leaves.proofs.WordsMaking.{whole_is}
use Rattle.rule_expr_leaves.proofs.words.whole.Goals as goal

pub returns : goal.returns
returns c = search whole_is
