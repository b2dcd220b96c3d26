use Rattle.code_calc.proofs.Leaves.{at-laws}
use Rattle.code_calc.proofs.cells.cells_at.Goals as goal

pub returns-then-place-gt-GREATEST : goal.returns-then-place-gt-GREATEST
returns-then-place-gt-GREATEST c = search at-laws

pub returns-then-n-eq1 : goal.returns-then-n-eq1
returns-then-n-eq1 c = search at-laws

pub returns : goal.returns
returns c = search at-laws
