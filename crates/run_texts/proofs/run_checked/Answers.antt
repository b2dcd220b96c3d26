use Rattle.run_texts.proofs.RunWays.{checked-laws}
use Rattle.run_texts.proofs.run_checked.Goals as goal

pub returns-in-Ok : goal.returns-in-Ok
returns-in-Ok c = search checked-laws

pub returns-in-Err : goal.returns-in-Err
returns-in-Err c = search checked-laws
