use Rattle.rule_statements.proofs.Calls.{call-way}
use Rattle.rule_statements.proofs.simple.call_named.Goals as goal

pub returns : goal.returns
returns c = search call-way
