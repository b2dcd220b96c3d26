use Rattle.mark_acts.proofs.Acting.{raise_laws}
use Rattle.mark_acts.proofs.acts.raise.Goals as goal

pub returns-then-z-gt-GREATEST : goal.returns-then-z-gt-GREATEST
returns-then-z-gt-GREATEST c = search raise_laws

pub returns-else-z-gt-GREATEST : goal.returns-else-z-gt-GREATEST
returns-else-z-gt-GREATEST c = search raise_laws
