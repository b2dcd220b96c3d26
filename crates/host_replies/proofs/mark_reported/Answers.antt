use Rattle.host_replies.proofs.Numbers.{mark-report-laws}
use Rattle.host_replies.proofs.mark_reported.Goals as goal

pub returns-in-Err : goal.returns-in-Err
returns-in-Err c = search mark-report-laws

pub returns-in-Ok : goal.returns-in-Ok
returns-in-Ok c = search mark-report-laws
