use Rattle.law.specs.Trees.{first}
use Rattle.law_theorems.specs.Readings.{stack_at}
use Rattle.rule_expressions.specs.Members.{many}
use Rattle.mark_statements.proofs.Seeking.{Behind}
use Rattle.mark_statements.proofs.finding.handler_of.Given as goal

abbrev pub invariant-loop-q : goal.invariant-loop-q
invariant-loop-q l = Behind l.text l.n l.at l.m l.p

abbrev pub decreases-loop-q : goal.decreases-loop-q
decreases-loop-q l = many (first (stack_at l.text l.p))
