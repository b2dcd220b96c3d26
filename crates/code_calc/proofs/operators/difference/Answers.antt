use Rattle.code_calc.proofs.Combining.{difference-word}
use Rattle.std.proofs.Common.{rules}
use Rattle.code_calc.proofs.operators.difference.Goals as goal

pub returns : goal.returns
returns c = search (difference-word, rules)
