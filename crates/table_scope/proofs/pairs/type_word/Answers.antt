use Rattle.table_scope.proofs.PairWays.{follow-is}
use Rattle.table_scope.proofs.pairs.type_word.Goals as goal

pub returns : goal.returns
returns c = search follow-is
