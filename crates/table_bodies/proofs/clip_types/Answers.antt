use Rattle.table_bodies.proofs.Clipping.{clip-end}
use Rattle.table_bodies.proofs.clip_types.Goals as goal

pub returns : goal.returns
returns c = search clip-end
