use Rattle.rule_parameters.proofs.Frames.{frames-laws}
use Rattle.rule_parameters.proofs.framing.frame_after.Goals as goal

pub returns-then-c-eq0 : goal.returns-then-c-eq0
returns-then-c-eq0 c = search frames-laws

pub returns-then-parameters_fit : goal.returns-then-parameters_fit
returns-then-parameters_fit c = search frames-laws

pub returns-then-is_clear : goal.returns-then-is_clear
returns-then-is_clear c = search frames-laws

pub returns : goal.returns
returns c = search frames-laws
