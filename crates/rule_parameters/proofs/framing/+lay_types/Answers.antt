use Rattle.rule_parameters.proofs.Frames.{types-laws}
use Rattle.rule_parameters.proofs.framing.+lay_types.Goals as goal

pub returns-then-n-eq0 : goal.returns-then-n-eq0
returns-then-n-eq0 t c = search types-laws

pub returns : goal.returns
returns t c = search types-laws
