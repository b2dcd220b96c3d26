-- An answer with another fault, and a node where no fault has come, as the code makes them.
use Rattle.std.specs.Prelude.{cond, List, ℕ}
use Rattle.code.specs.Layout.{lay}
use Rattle.rule_faults.specs.declared.Fault.{Fault}
use Rattle.rule_faults.specs.declared.Fault.TheVariants.{Kind}
use Rattle.table_scope.specs.declared.Loops.{Loops}
use Rattle.table_scope.specs.declared.Meaning.{Meaning}
use Rattle.table_scope.specs.declared.Meaning.TheVariants as meaning
use Rattle.table_scope.specs.Loops.{loops_over}
use Rattle.rule_faults.specs.declared.Got.{Got}
use Rattle.rule_faults.specs.Got.{lowest}
use Rattle.rule_expr_nodes.specs.Nodes.{Made, node_made, if_clear}

-- the same answer with another fault
abbrev pub with_fault : Got → Fault → Got
with_fault g f = record { fault = f; kind = g.kind; place = g.place; next = g.next; top = g.top }

-- a node where no fault has come; k is the number of the last statement read
unfoldable pub node_if : Fault → ℕ → ℕ → List ℕ → ℕ → List ℕ → Made
node_if f k q ns t l = if_clear f k q t l (node_made k q (lay ns t l))

-- a whole variable that is assigned, by its meaning
abbrev pub steered : Loops → Meaning → Got → Got
steered m meaning.Unknown g = g
steered m (meaning.Type k) g = g
steered m (meaning.Var i k a) g = cond (loops_over m i) (with_fault g (lowest g.fault Kind)) g
steered m (meaning.Proc p) g = g
steered m (meaning.Value k v) g = g
