use Rattle.rule_expr_leaves.proofs.Naming.{sole-word-laws}
use Rattle.rule_expr_leaves.proofs.fields.sole_word.Goals as goal

pub returns-in-Some : goal.returns-in-Some
returns-in-Some c = search sole-word-laws

pub returns-in-None : goal.returns-in-None
returns-in-None c = search sole-word-laws
