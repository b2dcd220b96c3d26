use Rattle.mark_expressions.proofs.Naming.{word_laws, word-rest}
use Rattle.mark_expressions.proofs.tables.Tables.word.Goals as goal

pub returns-in-Number : goal.returns-in-Number
returns-in-Number c = search word_laws

pub returns-in-Named : goal.returns-in-Named
returns-in-Named c = search word_laws

pub returns-in-Truth : goal.returns-in-Truth
returns-in-Truth c = search word_laws

pub returns-in-ErrorNumber : goal.returns-in-ErrorNumber
returns-in-ErrorNumber c = search word_laws

pub returns-in_default : goal.returns-in_default
returns-in_default c = word-rest _ _ _ _ _ _ _ _ (c.atom_of.ensures) _ c.in_default.not-Number c.in_default.not-Named c.in_default.not-Truth c.in_default.not-ErrorNumber
