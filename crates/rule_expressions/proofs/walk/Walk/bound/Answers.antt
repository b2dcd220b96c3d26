use Rattle.rule_expressions.proofs.WordsTelling.{bound-is}
use Rattle.rule_expressions.proofs.walk.Walk.bound.Goals as goal

pub returns : goal.returns
returns c = search bound-is
