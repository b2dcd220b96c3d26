use Rattle.rule_parameters.proofs.Frames.{want_laws}
use Rattle.rule_parameters.proofs.framing.lay_want.Goals as goal

pub returns-then-x-eq0 : goal.returns-then-x-eq0
returns-then-x-eq0 c = search want_laws

pub returns-else-x-eq0 : goal.returns-else-x-eq0
returns-else-x-eq0 c = search want_laws
