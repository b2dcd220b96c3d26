use Rattle.rule_parameters.proofs.Frames.{scope-laws}
use Rattle.rule_parameters.proofs.framing.scope_after.Goals as goal

pub returns-then-c-eq0 : goal.returns-then-c-eq0
returns-then-c-eq0 c = search scope-laws

pub returns-then-lets_in : goal.returns-then-lets_in
returns-then-lets_in c = search scope-laws

pub returns : goal.returns
returns c = search scope-laws
