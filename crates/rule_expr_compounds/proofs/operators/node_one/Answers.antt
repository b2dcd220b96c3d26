use Rattle.rule_expr_compounds.proofs.Operating.{one_laws}
use Rattle.rule_expr_compounds.proofs.operators.node_one.Goals as goal

pub returns-then-n-lt-PRED : goal.returns-then-n-lt-PRED
returns-then-n-lt-PRED c = search one_laws

pub returns-else-n-lt-PRED : goal.returns-else-n-lt-PRED
returns-else-n-lt-PRED c = search one_laws
