use Rattle.leaf_reserved.proofs.Guesses.{slot_is}
use Rattle.leaf_reserved.proofs.slots.slot_of.Goals as goal

pub returns : goal.returns
returns c = search slot_is
