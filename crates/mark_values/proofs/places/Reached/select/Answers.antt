use Rattle.mark_values.proofs.Reaching.{select_laws}
use Rattle.mark_values.proofs.places.Reached.select.Goals as goal

pub returns-then-a-gt-GREATEST : goal.returns-then-a-gt-GREATEST
returns-then-a-gt-GREATEST c = search select_laws

pub returns-then-f-eq0 : goal.returns-then-f-eq0
returns-then-f-eq0 c = search select_laws

pub returns : goal.returns
returns c = search select_laws
