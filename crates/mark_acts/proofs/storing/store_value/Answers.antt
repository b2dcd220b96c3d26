use Rattle.mark_acts.proofs.Placing.{value_laws}
use Rattle.mark_acts.proofs.storing.store_value.Goals as goal

pub returns-then-k-x : goal.returns-then-k-x
returns-then-k-x c = search value_laws

pub returns-then-i-eq0 : goal.returns-then-i-eq0
returns-then-i-eq0 c = search value_laws

pub returns-else-i-eq0 : goal.returns-else-i-eq0
returns-else-i-eq0 c = search value_laws
