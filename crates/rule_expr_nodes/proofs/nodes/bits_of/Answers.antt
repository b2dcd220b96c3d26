use Rattle.rule_expr_nodes.proofs.Making.{bits_laws, bits-turns}
use borrow.Author.Rules.{rules}
use Rattle.rule_expr_nodes.proofs.nodes.bits_of.Goals as goal

pub overflow_sub-z : goal.overflow_sub-z
overflow_sub-z c = search (bits-turns, rules)

pub returns-then-z-lt0 : goal.returns-then-z-lt0
returns-then-z-lt0 c = search bits_laws

pub returns-else-z-lt0 : goal.returns-else-z-lt0
returns-else-z-lt0 c = search bits_laws
