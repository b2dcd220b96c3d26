use Rattle.rule_expr_leaves.proofs.Naming.{sole-name-laws}
use Rattle.rule_expr_leaves.proofs.fields.sole_name.Goals as goal

pub returns-in-Leaf : goal.returns-in-Leaf
returns-in-Leaf c = search sole-name-laws

pub returns-in_default : goal.returns-in_default
returns-in_default c = search sole-name-laws
