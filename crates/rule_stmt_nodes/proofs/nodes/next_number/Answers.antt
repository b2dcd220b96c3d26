use native.Mathlib.Omega.{arith}
use Rattle.rule_stmt_nodes.proofs.Making.{number_is}
use Rattle.rule_stmt_nodes.proofs.nodes.next_number.Goals as goal

pub returns : goal.returns
returns c = number_is c.args.n c.saturating_add.result (λ h. omega arith) (λ h. omega arith)
