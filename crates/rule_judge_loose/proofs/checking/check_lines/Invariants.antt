use lib.ListN.{length}
use Prim.Native.Nat.{◌-◌}
use Rattle.rule_judge_loose.proofs.Driving.{Going}
use Rattle.rule_judge_loose.proofs.checking.check_lines.Given as goal

abbrev pub invariant-loop-p : goal.invariant-loop-p
invariant-loop-p l = Going l.text l.initial.work l.initial.types l.initial.bodies l.initial.known l.n l.p l.known l.work l.types l.bodies

abbrev pub decreases-loop-p : goal.decreases-loop-p
decreases-loop-p l = length l.text - l.p
