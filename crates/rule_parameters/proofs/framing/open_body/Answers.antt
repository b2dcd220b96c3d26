use Rattle.rule_parameters.proofs.Frames.{opens-so}
use Rattle.rule_parameters.proofs.framing.open_body.Goals as goal

pub returns : goal.returns
returns c = search opens-so
