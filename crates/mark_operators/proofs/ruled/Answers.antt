use Rattle.mark_operators.proofs.Operating.{ruled_laws}
use Rattle.mark_operators.proofs.ruled.Goals as goal

pub returns-in-Some : goal.returns-in-Some
returns-in-Some c = search ruled_laws
