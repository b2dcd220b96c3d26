use borrow.Author.Rules.{sfits_of}
use Rattle.rule_expr_leaves.proofs.WordsMaking.{after-laws}
use Rattle.rule_expr_leaves.proofs.words.word_last.Goals as goal

pub returns-in-Number : goal.returns-in-Number
returns-in-Number c = search (after-laws, sfits_of)

pub returns-in_default : goal.returns-in_default
returns-in_default c = search (after-laws, sfits_of)
