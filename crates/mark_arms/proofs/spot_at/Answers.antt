use Rattle.mark_arms.proofs.Reading.{spot_laws}
use Rattle.mark_arms.proofs.spot_at.Goals as goal

pub returns-in-Some : goal.returns-in-Some
returns-in-Some c = search spot_laws

pub returns-in-Some-f : goal.returns-in-Some-f
returns-in-Some-f c = search spot_laws

pub returns-in-None-f : goal.returns-in-None-f
returns-in-None-f c = search spot_laws
