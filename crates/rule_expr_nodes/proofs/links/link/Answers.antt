use Rattle.rule_expr_nodes.proofs.Linking.{link_is}
use Rattle.rule_expr_nodes.proofs.links.link.Goals as goal

pub returns : goal.returns
returns c = search link_is
