use lib.ListN.{length}
use Prim.Native.Nat.{◌-◌}
use Rattle.table_names.proofs.Keying.{Keying}
use Rattle.table_names.proofs.keys.key_of.Given as goal

abbrev pub invariant-loop-offset : goal.invariant-loop-offset
invariant-loop-offset l = Keying l.text l.offset l.p l.k

abbrev pub decreases-loop-offset : goal.decreases-loop-offset
decreases-loop-offset l = length l.text - l.p
