use Rattle.rule_expr_nodes.proofs.Linking.{linked_is}
use Rattle.rule_expr_nodes.proofs.links.link_to.Goals as goal

pub returns : goal.returns
returns c = search linked_is
