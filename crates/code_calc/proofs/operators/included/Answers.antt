use Rattle.code_calc.proofs.Combining.{set-laws}
use Rattle.code_calc.proofs.operators.included.Goals as goal

pub returns : goal.returns
returns c = search set-laws
