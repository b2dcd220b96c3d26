use Rattle.host_writing.proofs.Writing.{stuck-is}
use Rattle.host_writing.proofs.rows.stuck.Goals as goal

pub returns : goal.returns
returns c = search stuck-is
