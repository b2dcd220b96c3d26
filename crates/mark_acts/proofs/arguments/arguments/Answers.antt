use Rattle.mark_acts.proofs.Arguing.{gathered-again, gathered_laws, sofar-start}
use Rattle.mark_acts.proofs.arguments.arguments.Goals as goal

pub loop-j-init : goal.loop-j-init
loop-j-init c = search sofar-start

pub returns-in-Some : goal.returns-in-Some
returns-in-Some c = search gathered_laws

pub returns-then-z-gt-GREATEST : goal.returns-then-z-gt-GREATEST
returns-then-z-gt-GREATEST c = search gathered_laws

pub loop-j-preserved : goal.loop-j-preserved
loop-j-preserved c = search gathered-again

pub returns : goal.returns
returns c = search gathered_laws
