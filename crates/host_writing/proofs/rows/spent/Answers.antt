use Rattle.host_writing.proofs.Writing.{spent-is}
use Rattle.host_writing.proofs.rows.spent.Goals as goal

pub returns : goal.returns
returns c = search spent-is
