use Rattle.code_calc.proofs.Combining.{unary-laws}
use Rattle.code_calc.proofs.operators.unary.Goals as goal

pub returns-then-x-gt-GREATEST : goal.returns-then-x-gt-GREATEST
returns-then-x-gt-GREATEST c = search unary-laws

pub returns : goal.returns
returns c = search unary-laws
