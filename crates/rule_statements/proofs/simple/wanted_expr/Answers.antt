use Rattle.rule_statements.proofs.Ways.{wanted-way}
use Rattle.rule_statements.proofs.simple.wanted_expr.Goals as goal

pub returns : goal.returns
returns c = search wanted-way
