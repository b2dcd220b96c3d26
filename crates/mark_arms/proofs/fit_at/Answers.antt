use Rattle.mark_arms.proofs.Meeting.{meet-start, meet_laws}
use Rattle.mark_arms.proofs.Reading.{part_falls}
use Rattle.mark_arms.proofs.fit_at.Goals as goal

pub loop-q-init : goal.loop-q-init
loop-q-init c = meet-start _ _ _ _ _ _

pub returns-then-v-kind : goal.returns-then-v-kind
returns-then-v-kind c = search meet_laws

pub returns-then-v-z : goal.returns-then-v-z
returns-then-v-z c = search meet_laws

pub loop-q-smaller : goal.loop-q-smaller
loop-q-smaller c = search part_falls

pub loop-q-preserved : goal.loop-q-preserved
loop-q-preserved c = search meet_laws

pub returns : goal.returns
returns c = search meet_laws
