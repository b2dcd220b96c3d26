use lib.ListN.{length}
use Prim.Native.Nat.{◌-◌}
use Rattle.table_names.proofs.Ordering.{Ordered}
use Rattle.table_names.proofs.order.order_of.Given as goal

abbrev pub invariant-loop-p : goal.invariant-loop-p
invariant-loop-p l = Ordered l.text l.a l.b l.p l.q

abbrev pub decreases-loop-p : goal.decreases-loop-p
decreases-loop-p l = length l.text - l.p
