use borrow.Author.Rules.{sfits_of}
use Rattle.rule_expr_leaves.proofs.WordsMaking.{last-laws}
use Rattle.rule_expr_leaves.proofs.words.number_last.Goals as goal

pub returns-in-Some : goal.returns-in-Some
returns-in-Some c = search (last-laws, sfits_of)

pub returns-in-None : goal.returns-in-None
returns-in-None c = search (last-laws, sfits_of)
