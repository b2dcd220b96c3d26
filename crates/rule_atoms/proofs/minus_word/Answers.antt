use Rattle.rule_atoms.proofs.Ways.{minus_word_laws}
use Rattle.rule_atoms.proofs.minus_word.Goals as goal

pub returns-in_default : goal.returns-in_default
returns-in_default c = search minus_word_laws
