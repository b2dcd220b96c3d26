use Rattle.table_scope.proofs.Ways.{info-laws}
use Rattle.table_scope.proofs.integer_info.Goals as goal

pub returns : goal.returns
returns c = search info-laws
