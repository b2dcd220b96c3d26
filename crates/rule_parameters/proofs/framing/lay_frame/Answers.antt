use Rattle.rule_parameters.proofs.Frames.{frame-laid}
use Rattle.rule_parameters.proofs.framing.lay_frame.Goals as goal

pub returns : goal.returns
returns c = search frame-laid
