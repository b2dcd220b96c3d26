use Rattle.rule_labels.proofs.Finding.{compare_laws}
use Rattle.rule_labels.proofs.comes_again.Goals as goal

pub returns-then-holds : goal.returns-then-holds
returns-then-holds c = search compare_laws

pub loop-z-preserved : goal.loop-z-preserved
loop-z-preserved c = search compare_laws
