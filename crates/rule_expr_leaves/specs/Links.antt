-- The node of a set.
use Rattle.std.specs.Prelude.{cond, List, [], ◌∷◌, ℕ, eqb}
use Rattle.code.specs.Layout.{lay}
use Rattle.rule_faults.specs.declared.Fault.{Fault}
use Rattle.rule_faults.specs.declared.Fault.TheVariants.{Kind}
use Rattle.table_scope.specs.declared.Info.{Info}
use Rattle.table_scope.specs.Descriptions.{info_of}
use Rattle.rule_faults.specs.declared.Got.{Got}
use Rattle.rule_faults.specs.Got.{lowest}
use Rattle.rule_expr_nodes.specs.Nodes.{Made, failed_made, node_made, if_clear}

-- the set itself, of type t with a fault of its name's; i describes the type
unfoldable pub set_node : Info → ℕ → ℕ → Got → List ℕ → Made
set_node i t chain m l = cond (eqb i.shape 1) (node_made t m.next (lay (6 ∷ i.low ∷ i.high ∷ chain ∷ []) m.top l)) (failed_made Kind 0 m.next m.top l)

unfoldable pub set_made : List ℕ → List ℕ → Fault → ℕ → ℕ → Got → Made
set_made l ts f t chain m = if_clear (lowest f m.fault) 0 m.next m.top l (set_node (info_of l ts t) t chain m l)
