use Rattle.rule_restrictions.proofs.Bodies.{front-falls, front-laws, front-start}
use Rattle.rule_restrictions.proofs.body.body_kept.Goals as goal

pub loop-q-init : goal.loop-q-init
loop-q-init c = front-start _ _ _ _

pub returns-in-Past : goal.returns-in-Past
returns-in-Past c = search front-laws

pub returns-in-Handler : goal.returns-in-Handler
returns-in-Handler c = search front-laws

pub loop-q-smaller : goal.loop-q-smaller
loop-q-smaller c = search front-falls

pub loop-q-preserved : goal.loop-q-preserved
loop-q-preserved c = search front-laws

pub returns-else-stmt : goal.returns-else-stmt
returns-else-stmt c = search front-laws
