use Rattle.table_names.proofs.Names.{past-there}
use Rattle.table_names.proofs.past_values.Goals as goal

pub returns : goal.returns
returns c = search past-there
