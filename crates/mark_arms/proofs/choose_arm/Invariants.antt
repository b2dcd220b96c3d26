use Rattle.law.specs.Trees.{first}
use Rattle.law_theorems.specs.Readings.{stack_at}
use Rattle.mark_arms.specs.Arms.{many}
use Rattle.mark_arms.proofs.Choosing.{Choosing}
use Rattle.mark_arms.proofs.choose_arm.Given as goal

abbrev pub invariant-loop-q : goal.invariant-loop-q
invariant-loop-q l = Choosing l.text l.work l.scope l.kind l.z l.n l.at l.m l.p

abbrev pub decreases-loop-q : goal.decreases-loop-q
decreases-loop-q l = many (first (stack_at l.text l.p))
