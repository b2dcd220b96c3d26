use borrow.Author.Rules.{sfits_of}
use Rattle.rule_expressions.proofs.WordsTelling.{word_laws}
use Rattle.rule_expressions.proofs.walk.Walk.word.Goals as goal

pub returns-in-Number : goal.returns-in-Number
returns-in-Number c = search (word_laws, sfits_of)

pub returns-in-Named : goal.returns-in-Named
returns-in-Named c = search (word_laws, sfits_of)

pub returns-in-Truth : goal.returns-in-Truth
returns-in-Truth c = search (word_laws, sfits_of)

pub returns-in-ErrorNumber : goal.returns-in-ErrorNumber
returns-in-ErrorNumber c = search (word_laws, sfits_of)

pub returns-in_default : goal.returns-in_default
returns-in_default c = search word_laws
