use Rattle.rule_restrictions.proofs.ArmLabels.{pass-falls, pass-laws, pass-start}
use Rattle.rule_restrictions.proofs.arm_parts.after_labels.Goals as goal

pub loop-q-init : goal.loop-q-init
loop-q-init c = pass-start _ _

pub returns-in-Missing : goal.returns-in-Missing
returns-in-Missing c = search pass-laws

pub returns-in-Last : goal.returns-in-Last
returns-in-Last c = search pass-laws

pub loop-q-smaller : goal.loop-q-smaller
loop-q-smaller c = search pass-falls

pub loop-q-preserved : goal.loop-q-preserved
loop-q-preserved c = search pass-laws

pub returns-in-Bad : goal.returns-in-Bad
returns-in-Bad c = search pass-laws
