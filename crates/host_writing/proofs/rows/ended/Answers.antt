use Rattle.host_writing.proofs.Writing.{ended_is}
use Rattle.host_writing.proofs.rows.ended.Goals as goal

pub returns : goal.returns
returns c = search ended_is
