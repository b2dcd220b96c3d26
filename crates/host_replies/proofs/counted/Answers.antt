use Rattle.host_replies.proofs.Numbers.{count-laws}
use Rattle.host_replies.proofs.counted.Goals as goal

pub returns-in-Err : goal.returns-in-Err
returns-in-Err c = search count-laws

pub returns-in-Ok : goal.returns-in-Ok
returns-in-Ok c = search count-laws
