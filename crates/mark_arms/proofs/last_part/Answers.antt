use Rattle.mark_arms.proofs.Reading.{part_falls, pass-start, pass_laws}
use Rattle.mark_arms.proofs.last_part.Goals as goal

pub loop-q-init : goal.loop-q-init
loop-q-init c = pass-start _ _

pub loop-q-smaller : goal.loop-q-smaller
loop-q-smaller c = search part_falls

pub loop-q-preserved : goal.loop-q-preserved
loop-q-preserved c = search pass_laws

pub returns : goal.returns
returns c = search pass_laws
