use Rattle.table_scope.proofs.Looping.{none_is}
use Rattle.table_scope.proofs.no_loops.Goals as goal

pub returns : goal.returns
returns c = search none_is
