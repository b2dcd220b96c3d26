use borrow.Author.Rules.{sfits_of}
use Rattle.rule_expr_leaves.proofs.WordsMaking.{negative-laws}
use Rattle.rule_expr_leaves.proofs.words.negative.Goals as goal

pub returns-in-Ok : goal.returns-in-Ok
returns-in-Ok c = search (negative-laws, sfits_of)

pub returns-in-Err : goal.returns-in-Err
returns-in-Err c = search (negative-laws, sfits_of)
