use Prim.Native.Nat.{◌-◌}
use Rattle.rule_repeats.proofs.Meeting.{Listing}
use Rattle.rule_repeats.proofs.blocks.listed.Given as goal

abbrev pub invariant-loop-k : goal.invariant-loop-k
invariant-loop-k l = Listing l.text l.x l.from l.n l.p (l.n - l._k)
