use Rattle.mark_acts.proofs.Placing.{whole_laws}
use Rattle.mark_acts.proofs.storing.store_whole.Goals as goal

pub returns-then-i-lt2 : goal.returns-then-i-lt2
returns-then-i-lt2 c = search whole_laws

pub returns-else-i-lt2 : goal.returns-else-i-lt2
returns-else-i-lt2 c = search whole_laws
