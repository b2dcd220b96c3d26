use Rattle.rule_expr_leaves.proofs.WordsMaking.{place-laws}
use Rattle.rule_expr_leaves.proofs.words.place.Goals as goal

pub returns-in-Var : goal.returns-in-Var
returns-in-Var c = search place-laws
