use Rattle.table_kinds.specs.Kinds.{row_of, operation_of, coded, entry_of, table, node_at}
use Rattle.code.specs.Layout.{both, operation_number}
use Rattle.law.specs.Base.{given, either}
use mathlib.Core.Path.{refl}
use Rattle.table_kinds.proofs.node_at.Goals as goal

pub returns : goal.returns
unfolding node_at table entry_of coded operation_of operation_number both row_of given either
returns c = refl
