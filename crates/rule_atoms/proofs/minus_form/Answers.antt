use Rattle.rule_atoms.proofs.Ways.{minus_form_laws}
use Rattle.rule_atoms.proofs.minus_form.Goals.{in_default-via-in-Leaf+else-is_minus, in_default-via-in_default}
use Rattle.rule_atoms.proofs.minus_form.Goals as goal

pub returns-in-Leaf : goal.returns-in-Leaf
returns-in-Leaf c = search minus_form_laws

pub returns-in_default : goal.returns-in_default
returns-in_default c = elim c.in_default.branch [ in_default-via-in-Leaf+else-is_minus w ↦ search minus_form_laws | in_default-via-in_default w ↦ search minus_form_laws ]
