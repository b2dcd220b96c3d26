use Rattle.host_writing.proofs.Writing.{spaced-is}
use Rattle.host_writing.proofs.rows.spaced.Goals as goal

pub returns : goal.returns
returns c = search spaced-is
