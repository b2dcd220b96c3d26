use Rattle.rule_declarations.proofs.FreeNames.{last_laws}
use Rattle.rule_declarations.proofs.last_type.Goals as goal

pub returns-then-is_form : goal.returns-then-is_form
returns-then-is_form c = search last_laws

pub returns-in-Some : goal.returns-in-Some
returns-in-Some c = search last_laws

pub returns-in-None : goal.returns-in-None
returns-in-None c = search last_laws
