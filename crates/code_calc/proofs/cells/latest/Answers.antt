use Rattle.code_calc.proofs.Leaves.{latest-here}
use Rattle.std.proofs.Common.{rules}
use Rattle.code_calc.proofs.cells.latest.Goals as goal

pub returns : goal.returns
returns c = search (latest-here, rules)
