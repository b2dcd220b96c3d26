-- The nodes of operators and functions, as the code makes them from the answers for their sides.
use Rattle.std.specs.Prelude.{cond, List, [], ◌∷◌, ℕ, ltb}
use Rattle.code.specs.Layout.{lay}
use Rattle.table_kinds.specs.Kinds.{ruling2}
use Rattle.table_kinds.specs.Functions.{ruling1}
use Rattle.table_kinds.specs.Kinds.{Ruling}
use Rattle.std.specs.Prelude.{Some, None}
use Rattle.rule_faults.specs.declared.Fault.TheVariants.{Kind}
use Rattle.table_scope.specs.declared.Info.{Info}
use Rattle.table_scope.specs.Descriptions.{info_of}
use Rattle.table_scope.specs.Sides.{side_in}
use Rattle.rule_faults.specs.declared.Got.{Got}
use Rattle.rule_faults.specs.Got.{lowest}
use Rattle.rule_expr_nodes.specs.Nodes.{Made, failed_made, node_made, if_clear}

unfoldable pub ruled_node : Ruling → ℕ → ℕ → ℕ → ℕ → List ℕ → Made
ruled_node None x y q t l = failed_made Kind 0 q t l
ruled_node (Some r) x y q t l = node_made r.kind q (lay (r.node ∷ x ∷ y ∷ []) t l)

unfoldable pub operated : List ℕ → List ℕ → ℕ → Got → Got → Made
operated l ts op a b = ruled_node (ruling2 op (side_in l ts a.kind) (side_in l ts b.kind)) a.place b.place b.next b.top l

unfoldable pub paired : List ℕ → List ℕ → ℕ → Got → Got → Made
paired l ts op a b = if_clear (lowest a.fault b.fault) 0 b.next b.top l (operated l ts op a b)

-- one side; `pred` and `succ`, nodes 38 and 39, have their bounds
unfoldable pub ruled_node1 : Ruling → Info → ℕ → ℕ → ℕ → List ℕ → Made
ruled_node1 None i x q t l = failed_made Kind 0 q t l
ruled_node1 (Some r) i x q t l = node_made r.kind q (lay (cond (ltb r.node 38) (r.node ∷ x ∷ []) (r.node ∷ x ∷ i.low ∷ i.high ∷ [])) t l)

unfoldable pub applied_clear : List ℕ → List ℕ → ℕ → Got → Made
applied_clear l ts f a = ruled_node1 (ruling1 f (side_in l ts a.kind)) (info_of l ts a.kind) a.place a.next a.top l

unfoldable pub applied : List ℕ → List ℕ → ℕ → Got → Made
applied l ts f a = if_clear a.fault 0 a.next a.top l (applied_clear l ts f a)
