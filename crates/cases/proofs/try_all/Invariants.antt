use Prim.Native.Nat.{◌≤◌, ◌-◌}
use lib.ListN.{length}
use mathlib.Core.Path.{◌≡◌}
use Rattle.cases.proofs.try_all.Given as goal

abbrev pub invariant-loop-p : goal.invariant-loop-p
invariant-loop-p g l = (l.p ≤ length l.text) × ((l.n ≤ l.p) × ((l.bad ≤ l.p) × ((length l.work ≡ length l.initial.work) × (length l.out ≡ length l.initial.out))))

abbrev pub decreases-loop-p : goal.decreases-loop-p
decreases-loop-p g l = length l.text - l.p
