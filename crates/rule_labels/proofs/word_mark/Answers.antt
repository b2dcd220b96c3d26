use Rattle.rule_labels.proofs.Telling.{word_laws}
use Rattle.rule_labels.proofs.word_mark.Goals as goal

pub returns-in-Number : goal.returns-in-Number
returns-in-Number c = search word_laws

pub returns-in-Named : goal.returns-in-Named
returns-in-Named c = search word_laws

pub returns-in-Truth : goal.returns-in-Truth
returns-in-Truth c = search word_laws

pub returns-in_default : goal.returns-in_default
returns-in_default c = search word_laws
