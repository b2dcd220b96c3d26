use borrow.Author.Rules.{sfits_of}
use Rattle.rule_atoms.proofs.Ways.{truth_from}
use Rattle.rule_atoms.proofs.value_word.Goals as goal

pub returns-in-Truth : goal.returns-in-Truth
returns-in-Truth c = search (truth_from, sfits_of)
