use Rattle.mark_acts.proofs.Acting.{select_laws}
use Rattle.mark_acts.proofs.acts.selector.Goals as goal

pub returns-then-w-gt-GREATEST : goal.returns-then-w-gt-GREATEST
returns-then-w-gt-GREATEST c = search select_laws

pub returns-then-i-eq0 : goal.returns-then-i-eq0
returns-then-i-eq0 c = search select_laws

pub returns-else-i-eq0 : goal.returns-else-i-eq0
returns-else-i-eq0 c = search select_laws
