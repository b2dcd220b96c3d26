use Rattle.rule_statements.proofs.Bodies.{handled-way}
use Rattle.rule_statements.proofs.body.handled.Goals as goal

pub returns : goal.returns
returns c = search handled-way
