use Rattle.code_calc.proofs.Combining.{union-word}
use Rattle.std.proofs.Common.{rules}
use Rattle.code_calc.proofs.operators.union.Goals as goal

pub returns : goal.returns
returns c = search (union-word, rules)
