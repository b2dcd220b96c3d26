use Rattle.host_telling.proofs.MarkTelling.{mark-laws}
use Rattle.host_telling.proofs.markings.mark_shown.Goals as goal

pub returns-in-Err : goal.returns-in-Err
returns-in-Err c = search mark-laws

pub returns-in-Ok : goal.returns-in-Ok
returns-in-Ok c = search mark-laws
