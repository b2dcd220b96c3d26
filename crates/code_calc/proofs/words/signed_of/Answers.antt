use Rattle.code_calc.proofs.Leaves.{signed-laws}
use Rattle.std.proofs.Common.{rules}
use Rattle.code_calc.proofs.words.signed_of.Goals as goal

pub overflow_sub-result : goal.overflow_sub-result
overflow_sub-result c = search (signed-laws, rules)

pub returns : goal.returns
returns c = search (signed-laws, rules)
