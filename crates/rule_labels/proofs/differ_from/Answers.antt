use Rattle.rule_labels.proofs.Finding.{clear_laws}
use Rattle.rule_labels.proofs.differ_from.Goals as goal

pub returns-then-recurs : goal.returns-then-recurs
returns-then-recurs c = search clear_laws

pub loop-block-preserved : goal.loop-block-preserved
loop-block-preserved c = search clear_laws
