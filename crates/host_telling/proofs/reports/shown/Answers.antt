use Rattle.host_telling.proofs.Telling.{report-laws}
use Rattle.host_telling.proofs.reports.shown.Goals as goal

pub returns-in-Err : goal.returns-in-Err
returns-in-Err c = search report-laws

pub returns-in-Ok : goal.returns-in-Ok
returns-in-Ok c = search report-laws
