use Rattle.law.specs.Trees.{first}
use Rattle.law_theorems.specs.Readings.{stack_at}
use Rattle.mark_arms.specs.Arms.{many}
use Rattle.mark_arms.proofs.Meeting.{Meeting}
use Rattle.mark_arms.proofs.fit_at.Given as goal

abbrev pub invariant-loop-q : goal.invariant-loop-q
invariant-loop-q l = Meeting l.text l.work l.scope l.kind l.z l.at l.p

abbrev pub decreases-loop-q : goal.decreases-loop-q
decreases-loop-q l = many (first (stack_at l.text l.p))
