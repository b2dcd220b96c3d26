use Rattle.run_texts.proofs.RunWays.{loaded-laws}
use Rattle.run_texts.proofs.run_loaded.Goals as goal

pub returns-then-f-ne0 : goal.returns-then-f-ne0
returns-then-f-ne0 c = search loaded-laws

pub returns : goal.returns
returns c = search loaded-laws
