use Rattle.mark_statements.proofs.Seeking.{behind-start, handler-falls, handler-laws, handler-next}
use Rattle.mark_statements.proofs.finding.handler_of.Goals as goal

pub loop-q-init : goal.loop-q-init
loop-q-init c = search behind-start

pub returns-in-Past : goal.returns-in-Past
returns-in-Past c = search handler-laws

pub returns-in-Handler : goal.returns-in-Handler
returns-in-Handler c = search handler-laws

pub loop-q-smaller : goal.loop-q-smaller
loop-q-smaller c = search handler-falls

pub loop-q-preserved : goal.loop-q-preserved
loop-q-preserved c = search handler-next
