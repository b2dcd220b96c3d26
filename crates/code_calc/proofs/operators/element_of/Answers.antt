use Rattle.code_calc.proofs.Placing.{index-laws}
use Rattle.std.proofs.Common.{rules}
use Rattle.code_calc.proofs.operators.element_of.Goals as goal

pub returns-then-a-gt-GREATEST : goal.returns-then-a-gt-GREATEST
returns-then-a-gt-GREATEST c = search (index-laws, rules)

pub returns-then-x-gt-GREATEST : goal.returns-then-x-gt-GREATEST
returns-then-x-gt-GREATEST c = search (index-laws, rules)

pub overflow_sub-x : goal.overflow_sub-x
overflow_sub-x c = search (index-laws, rules)

pub returns-then-in_range : goal.returns-then-in_range
returns-then-in_range c = search (index-laws, rules)

pub returns : goal.returns
returns c = search (index-laws, rules)
