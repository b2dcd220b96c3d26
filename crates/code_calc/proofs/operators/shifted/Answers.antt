use Rattle.code_calc.proofs.Placing.{element-laws}
use Rattle.std.proofs.Common.{rules}
use Rattle.code_calc.proofs.operators.shifted.Goals as goal

pub returns-then-a-gt-GREATEST : goal.returns-then-a-gt-GREATEST
returns-then-a-gt-GREATEST c = search (element-laws, rules)

pub returns : goal.returns
returns c = search (element-laws, rules)
