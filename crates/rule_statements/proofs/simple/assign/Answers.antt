use Rattle.rule_statements.proofs.Storing.{assign-laws}
use Rattle.rule_statements.proofs.simple.assign.Goals as goal

pub returns-then-is_form : goal.returns-then-is_form
returns-then-is_form c = search assign-laws

pub returns : goal.returns
returns c = search assign-laws
