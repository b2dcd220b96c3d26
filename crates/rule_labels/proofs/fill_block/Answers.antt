use Rattle.rule_labels.proofs.Finding.{fill_laws}
use Rattle.rule_labels.proofs.fill_block.Goals as goal

pub loop-n-preserved : goal.loop-n-preserved
loop-n-preserved c = search fill_laws

pub returns : goal.returns
returns c = search fill_laws
