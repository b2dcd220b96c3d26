use Rattle.host_writing.proofs.Writing.{refused-is}
use Rattle.host_writing.proofs.rows.refused.Goals as goal

pub returns : goal.returns
returns c = search refused-is
