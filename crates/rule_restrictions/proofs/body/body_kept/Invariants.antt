use Rattle.law.specs.Trees.{first}
use Rattle.law_theorems.specs.Readings.{stack_at}
use Rattle.rule_statements.specs.Chains.{many}
use Rattle.rule_restrictions.proofs.Bodies.{Fronting}
use Rattle.rule_restrictions.proofs.body.body_kept.Given as goal

abbrev pub invariant-loop-q : goal.invariant-loop-q
invariant-loop-q l = Fronting l.text l.work l.scope l.at l.p

abbrev pub decreases-loop-q : goal.decreases-loop-q
decreases-loop-q l = many (first (stack_at l.text l.p))
