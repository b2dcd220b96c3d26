use Rattle.mark_values.proofs.Settling.{negative_laws}
use Rattle.mark_values.proofs.constants.negative.Goals as goal

pub returns-in-Err : goal.returns-in-Err
returns-in-Err c = search negative_laws
