use Rattle.rule_expr_leaves.proofs.Linking.{base-is}
use Rattle.rule_expr_leaves.proofs.links.base_of.Goals as goal

pub returns : goal.returns
returns c = search base-is
