use Rattle.mark_arms.proofs.Choosing.{at_laws}
use Rattle.mark_arms.proofs.entry_at.Goals as goal

pub returns-in-Form : goal.returns-in-Form
returns-in-Form c = search at_laws

pub returns-in_default : goal.returns-in_default
returns-in_default c = search at_laws
