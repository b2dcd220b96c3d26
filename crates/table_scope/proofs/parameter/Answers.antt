use Rattle.table_scope.proofs.Ways.{parameter-is}
use Rattle.table_scope.proofs.parameter.Goals as goal

pub returns : goal.returns
returns c = search parameter-is
