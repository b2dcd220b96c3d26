use Rattle.host_writing.proofs.Writing.{normal-is}
use Rattle.host_writing.proofs.rows.normal.Goals as goal

pub returns : goal.returns
returns c = search normal-is
