use Rattle.host_writing.proofs.Writing.{decimal-is}
use Rattle.host_writing.proofs.putting.decimal.Goals as goal

pub returns : goal.returns
returns c = search decimal-is
