use Rattle.rule_expr_nodes.proofs.Making.{literal_laws}
use Rattle.rule_expr_nodes.proofs.nodes.literal.Goals as goal

pub returns-then-in_range : goal.returns-then-in_range
returns-then-in_range c = search literal_laws
