use Rattle.mark_texts.proofs.MarkWays.{checked-laws}
use Rattle.mark_texts.proofs.mark_checked.Goals as goal

pub returns-in-Ok : goal.returns-in-Ok
returns-in-Ok c = search checked-laws

pub returns-in-Err : goal.returns-in-Err
returns-in-Err c = search checked-laws
