use Rattle.code_calc.proofs.Placing.{distance-laws}
use Rattle.std.proofs.Common.{rules}
use Rattle.code_calc.proofs.operators.distance.Goals as goal

pub returns-then-x-gt-GREATEST : goal.returns-then-x-gt-GREATEST
returns-then-x-gt-GREATEST c = search (distance-laws, rules)

pub overflow_sub-result : goal.overflow_sub-result
overflow_sub-result c = search (distance-laws, rules)

pub returns-then-in_range : goal.returns-then-in_range
returns-then-in_range c = search (distance-laws, rules)

pub returns : goal.returns
returns c = search (distance-laws, rules)
