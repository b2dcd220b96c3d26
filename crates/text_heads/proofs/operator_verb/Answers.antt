use Rattle.text_heads.proofs.Arms.{number-laws}
use Rattle.text_heads.proofs.operator_verb.Goals as goal

pub returns-in-0 : goal.returns-in-0
returns-in-0 c = search number-laws

pub returns-in_default : goal.returns-in_default
returns-in_default c = search number-laws
