use Rattle.mark_expressions.proofs.Naming.{bound-is}
use Rattle.mark_expressions.proofs.tables.Tables.bound.Goals as goal

pub returns : goal.returns
returns c = search bound-is
