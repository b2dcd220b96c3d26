use Rattle.rule_statements.proofs.Bodies.{body-way}
use Rattle.rule_statements.proofs.body.body.Goals as goal

pub returns : goal.returns
returns c = search body-way
