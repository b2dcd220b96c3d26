use Rattle.mark_texts.proofs.MarkWays.{loaded-laws}
use Rattle.mark_texts.proofs.mark_loaded.Goals as goal

pub returns-then-f-ne0 : goal.returns-then-f-ne0
returns-then-f-ne0 c = search loaded-laws

pub returns : goal.returns
returns c = search loaded-laws
