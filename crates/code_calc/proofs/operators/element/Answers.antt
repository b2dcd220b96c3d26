use Rattle.code_calc.proofs.Placing.{element-laws}
use Rattle.std.proofs.Common.{rules}
use Rattle.code_calc.proofs.operators.element.Goals as goal

pub returns-then-a-gt-GREATEST : goal.returns-then-a-gt-GREATEST
returns-then-a-gt-GREATEST c = search (element-laws, rules)

pub returns-then-d-gt-GREATEST : goal.returns-then-d-gt-GREATEST
returns-then-d-gt-GREATEST c = search (element-laws, rules)

pub overflow_mul-t : goal.overflow_mul-t
overflow_mul-t c = search (element-laws, rules)

pub overflow_add-reach : goal.overflow_add-reach
overflow_add-reach c = search (element-laws, rules)

pub returns : goal.returns
returns c = search (element-laws, rules)
