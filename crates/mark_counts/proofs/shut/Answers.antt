use Rattle.mark_counts.proofs.Counting.{shut-laws}
use Rattle.mark_counts.proofs.shut.Goals as goal

pub returns-then-m-eq0 : goal.returns-then-m-eq0
returns-then-m-eq0 c = search shut-laws

pub returns : goal.returns
returns c = search shut-laws
