use Rattle.mark_counts.proofs.Counting.{head-laws}
use Rattle.mark_counts.proofs.head_at.Goals as goal

pub returns-in-Leaf : goal.returns-in-Leaf
returns-in-Leaf c = search head-laws

pub returns-in_default : goal.returns-in_default
returns-in_default c = search head-laws
