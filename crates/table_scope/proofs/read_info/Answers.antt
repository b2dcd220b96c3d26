use Rattle.table_scope.proofs.Ways.{read_is}
use Rattle.table_scope.proofs.read_info.Goals as goal

pub returns : goal.returns
returns c = search read_is
