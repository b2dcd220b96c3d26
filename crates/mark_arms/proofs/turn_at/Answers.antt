use Rattle.mark_arms.proofs.Choosing.{turn_laws}
use Rattle.mark_arms.proofs.turn_at.Goals as goal

pub returns-in_default : goal.returns-in_default
returns-in_default c = search turn_laws

pub returns-then-hit : goal.returns-then-hit
returns-then-hit c = search turn_laws

pub returns-else-hit : goal.returns-else-hit
returns-else-hit c = search turn_laws

pub returns-in-Other : goal.returns-in-Other
returns-in-Other c = search turn_laws

pub returns-in-Over : goal.returns-in-Over
returns-in-Over c = search turn_laws
