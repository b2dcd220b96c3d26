use Rattle.text_heads.proofs.Arms.{number-laws}
use Rattle.text_heads.proofs.reserved_atom.Goals as goal

pub returns-in-41 : goal.returns-in-41
returns-in-41 c = search number-laws

pub returns-in-42 : goal.returns-in-42
returns-in-42 c = search number-laws

pub returns-in-43 : goal.returns-in-43
returns-in-43 c = search number-laws

pub returns-in-44 : goal.returns-in-44
returns-in-44 c = search number-laws

pub returns-in-45 : goal.returns-in-45
returns-in-45 c = search number-laws

pub returns-in_default : goal.returns-in_default
returns-in_default c = search number-laws
