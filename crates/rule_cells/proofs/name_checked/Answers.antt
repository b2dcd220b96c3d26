use Rattle.rule_cells.proofs.Counts.{checked-laws}
use Rattle.rule_cells.proofs.name_checked.Goals as goal

pub returns-in-Ok : goal.returns-in-Ok
returns-in-Ok c = search checked-laws

pub returns-in-Err : goal.returns-in-Err
returns-in-Err c = search checked-laws
