use Rattle.rule_statements.proofs.Ways.{raise-way}
use Rattle.rule_statements.proofs.simple.raise.Goals as goal

pub returns : goal.returns
returns c = search raise-way
