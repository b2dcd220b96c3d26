use Rattle.mark_counts.proofs.Counting.{part-laws}
use Rattle.mark_counts.proofs.count_statements.Goals as goal

pub returns-in-Form : goal.returns-in-Form
returns-in-Form c = search part-laws

pub returns-in_default : goal.returns-in_default
returns-in_default c = search part-laws
