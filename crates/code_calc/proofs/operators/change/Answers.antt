use Rattle.code_calc.proofs.Combining.{change-laws}
use Rattle.code_calc.proofs.operators.change.Goals as goal

pub returns-in-30 : goal.returns-in-30
returns-in-30 c = search change-laws

pub returns-in-31 : goal.returns-in-31
returns-in-31 c = search change-laws

pub returns-in-32 : goal.returns-in-32
returns-in-32 c = search change-laws

pub returns-in-33 : goal.returns-in-33
returns-in-33 c = search change-laws

pub returns-in-34 : goal.returns-in-34
returns-in-34 c = search change-laws

pub returns-in-35 : goal.returns-in-35
returns-in-35 c = search change-laws

pub returns-in-36 : goal.returns-in-36
returns-in-36 c = search change-laws

pub returns-in-37 : goal.returns-in-37
returns-in-37 c = search change-laws

pub returns-in_default : goal.returns-in_default
returns-in_default c = search change-laws
