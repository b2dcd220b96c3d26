use Rattle.rule_parameters.proofs.Frames.{wants-laws}
use Rattle.rule_parameters.proofs.framing.+lay_wants.Goals as goal

pub returns-then-n-eq0 : goal.returns-then-n-eq0
returns-then-n-eq0 t c = search wants-laws

pub returns : goal.returns
returns t c = search wants-laws
