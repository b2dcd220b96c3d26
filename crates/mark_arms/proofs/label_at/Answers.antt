use Rattle.mark_arms.proofs.Reading.{label_laws}
use Rattle.mark_arms.proofs.label_at.Goals as goal

pub returns-then-is_clear : goal.returns-then-is_clear
returns-then-is_clear c = search label_laws

pub returns : goal.returns
returns c = search label_laws
