use Rattle.text_heads.proofs.Arms.{number-laws}
use Rattle.text_heads.proofs.reserved_maker.Goals as goal

pub returns-in-5 : goal.returns-in-5
returns-in-5 c = search number-laws

pub returns-in-6 : goal.returns-in-6
returns-in-6 c = search number-laws

pub returns-in-7 : goal.returns-in-7
returns-in-7 c = search number-laws

pub returns-in-8 : goal.returns-in-8
returns-in-8 c = search number-laws

pub returns-in-9 : goal.returns-in-9
returns-in-9 c = search number-laws

pub returns-in_default : goal.returns-in_default
returns-in_default c = search number-laws
