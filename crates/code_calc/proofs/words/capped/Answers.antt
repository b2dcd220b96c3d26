use Rattle.code_calc.proofs.Leaves.{capped-here, capped-past}
use Rattle.code_calc.proofs.words.capped.Goals as goal

pub returns-then-a-gt4294967295 : goal.returns-then-a-gt4294967295
returns-then-a-gt4294967295 c = search (capped-past, capped-here)

pub returns : goal.returns
returns c = search (capped-past, capped-here)
