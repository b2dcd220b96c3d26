use Rattle.rule_expr_leaves.proofs.WordsMaking.{alone-laws}
use Rattle.rule_expr_leaves.proofs.words.number_alone.Goals as goal

pub returns-in-Leaf : goal.returns-in-Leaf
returns-in-Leaf c = search alone-laws

pub returns-in_default : goal.returns-in_default
returns-in_default c = search alone-laws
