use Rattle.rule_statements.proofs.Ways.{call-laws}
use Rattle.rule_statements.proofs.simple.call.Goals as goal

pub returns-then-is_named : goal.returns-then-is_named
returns-then-is_named c = search call-laws

pub returns-else-is_named : goal.returns-else-is_named
returns-else-is_named c = search call-laws

pub returns-in-Form : goal.returns-in-Form
returns-in-Form c = search call-laws

pub returns-in-Shut : goal.returns-in-Shut
returns-in-Shut c = search call-laws
