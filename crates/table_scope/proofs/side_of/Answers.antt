use Rattle.table_scope.proofs.Ways.{side-is}
use Rattle.table_scope.proofs.side_of.Goals as goal

pub returns : goal.returns
returns c = search side-is
