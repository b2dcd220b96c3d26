use Rattle.mark_arms.proofs.Choosing.{choose-falls, choose_laws, choose-start}
use Rattle.mark_arms.proofs.choose_arm.Goals as goal

pub loop-q-init : goal.loop-q-init
loop-q-init c = choose-start _ _ _ _ _ _ _

pub returns-in-Taken : goal.returns-in-Taken
returns-in-Taken c = search choose_laws

pub returns-in-Absent : goal.returns-in-Absent
returns-in-Absent c = search choose_laws

pub returns-in-Stuck : goal.returns-in-Stuck
returns-in-Stuck c = search choose_laws

pub loop-q-smaller : goal.loop-q-smaller
loop-q-smaller c = search choose-falls

pub loop-q-preserved : goal.loop-q-preserved
loop-q-preserved c = search choose_laws
