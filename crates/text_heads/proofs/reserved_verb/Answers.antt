use Rattle.text_heads.proofs.Arms.{number-laws}
use Rattle.text_heads.proofs.reserved_verb.Goals as goal

pub returns-in-10 : goal.returns-in-10
returns-in-10 c = search number-laws

pub returns-in-11 : goal.returns-in-11
returns-in-11 c = search number-laws

pub returns-in-12 : goal.returns-in-12
returns-in-12 c = search number-laws

pub returns-in-13 : goal.returns-in-13
returns-in-13 c = search number-laws

pub returns-in-14 : goal.returns-in-14
returns-in-14 c = search number-laws

pub returns-in-17 : goal.returns-in-17
returns-in-17 c = search number-laws

pub returns-in-18 : goal.returns-in-18
returns-in-18 c = search number-laws

pub returns-in_default : goal.returns-in_default
returns-in_default c = search number-laws
