-- The nodes of elements and fields, and of the cells at a target, as the code makes them.
use Rattle.std.specs.Prelude.{cond, ◌&&◌, List, [], ◌∷◌, ◌≡◌, ℕ, ◌+◌, ◌*◌, ◌≤◌, eqb, get_or}
use Rattle.law.specs.Base as Base
use Rattle.code.specs.Layout.{lay}
use Rattle.code.specs.LayoutRegions.{Same}
use Rattle.rule_faults.specs.declared.Fault.TheVariants.{Kind, Name}
use Rattle.table_scope.specs.declared.Info.{Info}
use Rattle.table_scope.specs.Descriptions.{info_of, field_place}
use Rattle.table_scope.specs.Sides.{host_in}
use Rattle.rule_faults.specs.declared.Got.{Got}
use Rattle.rule_faults.specs.Got.{lowest}
use Rattle.rule_expr_nodes.specs.Nodes.{Made, failed_made, node_made, Makes, if_clear}

-- the cells at a computed place
unfoldable pub loaded : List ℕ → List ℕ → Got → Made
loaded l ts g = if_clear g.fault 0 g.next g.top l (node_made (host_in l ts g.kind) g.next (lay (4 ∷ g.place ∷ (info_of l ts g.kind).size ∷ []) g.top l))

-- an element, where i describes the target's type; its type is known where that is an array's
unfoldable pub element_kind : Info → ℕ
element_kind i = cond (eqb i.shape 2) i.element 0

unfoldable pub element : List ℕ → List ℕ → Info → Got → Got → Made
element l ts i g e = cond (eqb i.shape 2 && eqb (host_in l ts i.index) e.kind)
    (node_made i.element e.next (lay (41 ∷ g.place ∷ e.place ∷ i.low ∷ i.high ∷ (info_of l ts i.element).size ∷ []) e.top l))
    (failed_made Kind (element_kind i) e.next e.top l)

unfoldable pub indexed : List ℕ → List ℕ → Got → Got → Made
indexed l ts g e = if_clear (lowest g.fault e.fault) (element_kind (info_of l ts g.kind)) e.next e.top l (element l ts (info_of l ts g.kind) g e)

-- a field whose description stands at p, 0 for none
unfoldable pub field_made : List ℕ → ℕ → ℕ → Got → Made
field_made l p q g = cond (eqb p 0) (failed_made (lowest g.fault Name) 0 q g.top l)
    (if_clear g.fault (get_or l (p + 1) 0) q g.top l (node_made (get_or l (p + 1) 0) q (lay (42 ∷ g.place ∷ get_or l (p + 2) 0 ∷ []) g.top l)))

-- of a type described by i, by its name
unfoldable pub selected_made : List ℕ → List ℕ → Info → Base.Name → ℕ → Got → Made
selected_made s l i w q g = cond (eqb i.shape 3) (field_made l (field_place s l (i.place + 8) i.fields w) q g) (failed_made (lowest g.fault Kind) 0 q g.top l)

-- where the description's end has a place of 32 bits
pub record Selects (s l : List ℕ) (i : Info) (w : Base.Name) (q : ℕ) (g r : Got) (l' : List ℕ) : Type 0 where
  pub selects : i.place + 8 + 4 * i.fields ≤ 4294967296 → Makes (selected_made s l i w q g) r l'
  pub next-is : r.next ≡ q
  pub top_up : g.top ≤ r.top
  pub below : Same 0 g.top l' l
