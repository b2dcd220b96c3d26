use Rattle.rule_atoms.proofs.Ways.{minus_number_laws}
use Rattle.rule_atoms.proofs.minus_number.Goals as goal

pub returns-in-Leaf : goal.returns-in-Leaf
returns-in-Leaf c = search minus_number_laws

pub returns-in_default : goal.returns-in_default
returns-in_default c = search minus_number_laws
