use Rattle.rule_parameters.proofs.Frames.{state-laid}
use Rattle.rule_parameters.proofs.framing.proc_state.Goals as goal

pub returns : goal.returns
returns c = search state-laid
