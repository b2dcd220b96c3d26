use Rattle.text_heads.proofs.Arms.{number-laws}
use Rattle.text_heads.proofs.reserved_arm.Goals as goal

pub returns-in-15 : goal.returns-in-15
returns-in-15 c = search number-laws

pub returns-in-16 : goal.returns-in-16
returns-in-16 c = search number-laws

pub returns-in_default : goal.returns-in_default
returns-in_default c = search number-laws
