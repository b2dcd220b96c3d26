use Rattle.rule_statements.proofs.Labelling.{labelled-is}
use Rattle.rule_statements.proofs.arm_labels.labelled.Goals as goal

pub returns : goal.returns
returns c = search labelled-is
