use Rattle.host_writing.proofs.Writing.{digits-laws}
use Rattle.host_writing.proofs.putting.+digits.Goals as goal

pub returns-then-most-eq0 : goal.returns-then-most-eq0
returns-then-most-eq0 t c = search digits-laws

pub returns-then-n-lt10 : goal.returns-then-n-lt10
returns-then-n-lt10 t c = search digits-laws

pub returns : goal.returns
returns t c = search digits-laws
