use Rattle.host_writing.proofs.Writing.{place_is}
use Rattle.host_writing.proofs.rows.place_and_steps.Goals as goal

pub returns : goal.returns
returns c = search place_is
