use Rattle.text_skips.proofs.Skipping.{step_laws}
use Rattle.text_skips.proofs.step.Goals as goal

pub returns-in-Form : goal.returns-in-Form
returns-in-Form c = search step_laws

pub returns-in-Leaf : goal.returns-in-Leaf
returns-in-Leaf c = search step_laws

pub returns-in-Shut : goal.returns-in-Shut
returns-in-Shut c = search step_laws
