use Rattle.code_calc.proofs.Combining.{binary-laws}
use Rattle.code_calc.proofs.operators.binary.Goals as goal

pub returns-then-x-gt-GREATEST : goal.returns-then-x-gt-GREATEST
returns-then-x-gt-GREATEST c = search binary-laws

pub returns-then-y-gt-GREATEST : goal.returns-then-y-gt-GREATEST
returns-then-y-gt-GREATEST c = search binary-laws

pub returns : goal.returns
returns c = search binary-laws
