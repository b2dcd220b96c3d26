use Rattle.rule_type_forms.proofs.TypeShapes.{after_laws}
use Rattle.rule_type_forms.proofs.type_after.Goals as goal

pub returns-in-Leaf : goal.returns-in-Leaf
returns-in-Leaf c = search after_laws

pub returns-in-Form : goal.returns-in-Form
returns-in-Form c = search after_laws

pub returns-in-Shut : goal.returns-in-Shut
returns-in-Shut c = search after_laws
