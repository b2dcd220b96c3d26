use Rattle.host_replies.proofs.Numbers.{verdict-laws}
use Rattle.host_replies.proofs.told.Goals as goal

pub returns-in-Ok : goal.returns-in-Ok
returns-in-Ok c = search verdict-laws

pub returns-in-Err : goal.returns-in-Err
returns-in-Err c = search verdict-laws
