use Rattle.code_calc.proofs.Combining.{intersection-word}
use Rattle.std.proofs.Common.{rules}
use Rattle.code_calc.proofs.operators.intersection.Goals as goal

pub returns : goal.returns
returns c = search (intersection-word, rules)
