use Rattle.leaf_powers.proofs.Powers.{raise_cast}
use Rattle.std.proofs.Common.{rules}
use Rattle.code_calc.proofs.Leaves.{reach-laws}
use Rattle.code_calc.proofs.words.reach.Goals as goal

pub returns-then-z-lt0 : goal.returns-then-z-lt0
returns-then-z-lt0 c = search (reach-laws, rules)

pub returns-then-z-gt4294967295 : goal.returns-then-z-gt4294967295
returns-then-z-gt4294967295 c = search (reach-laws, rules)

pub overflow_cast-result : goal.overflow_cast-result
overflow_cast-result c = raise_cast c.args.z c.ranges.z c.if-z-lt0.false

pub returns : goal.returns
returns c = search (reach-laws, rules)
