use Rattle.table_kinds.specs.Functions.{takes, fun_node, table1, node_at1}
use Rattle.table_kinds.specs.Kinds.{row_of}
use mathlib.Core.Path.{refl}
use Rattle.table_kinds.proofs.node_at_one.Goals as goal

pub returns : goal.returns
unfolding node_at1 table1 takes fun_node row_of
returns c = refl
