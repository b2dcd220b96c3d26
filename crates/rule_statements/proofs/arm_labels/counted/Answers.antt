use Rattle.rule_statements.proofs.Labelling.{counted-laws}
use Rattle.rule_statements.proofs.arm_labels.counted.Goals as goal

pub returns-then-g-eq0 : goal.returns-then-g-eq0
returns-then-g-eq0 c = search counted-laws

pub returns-else-g-eq0 : goal.returns-else-g-eq0
returns-else-g-eq0 c = search counted-laws
