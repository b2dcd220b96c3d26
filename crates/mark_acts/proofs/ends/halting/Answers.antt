use Rattle.mark_acts.proofs.Ending.{halting_laws}
use Rattle.mark_acts.proofs.ends.halting.Goals as goal

pub returns-then-w-eq-STUCK : goal.returns-then-w-eq-STUCK
returns-then-w-eq-STUCK c = search halting_laws

pub returns-else-w-eq-STUCK : goal.returns-else-w-eq-STUCK
returns-else-w-eq-STUCK c = search halting_laws
