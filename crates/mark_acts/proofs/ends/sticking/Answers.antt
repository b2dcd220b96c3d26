use Rattle.mark_acts.proofs.Ending.{sticking-is}
use Rattle.mark_acts.proofs.ends.sticking.Goals as goal

pub returns : goal.returns
returns c = search sticking-is
