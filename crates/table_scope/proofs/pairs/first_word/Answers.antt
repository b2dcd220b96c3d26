use Rattle.table_scope.proofs.PairWays.{lead_laws}
use Rattle.table_scope.proofs.pairs.first_word.Goals as goal

pub returns-in-Form : goal.returns-in-Form
returns-in-Form c = search lead_laws

pub returns-in-Leaf : goal.returns-in-Leaf
returns-in-Leaf c = search lead_laws

pub returns-in-Shut : goal.returns-in-Shut
returns-in-Shut c = search lead_laws
