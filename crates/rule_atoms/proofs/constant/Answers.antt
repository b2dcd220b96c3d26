use Rattle.rule_atoms.proofs.Ways.{constant_laws}
use Rattle.rule_atoms.proofs.constant.Goals as goal

pub returns-in-Leaf : goal.returns-in-Leaf
returns-in-Leaf c = search constant_laws

pub returns-in-Form : goal.returns-in-Form
returns-in-Form c = search constant_laws

pub returns-in-Shut : goal.returns-in-Shut
returns-in-Shut c = search constant_laws
