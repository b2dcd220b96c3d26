use lib.ListN.{length}
use mathlib.Core.Path.{◌≡◌}
use Rattle.law.specs.Trees.{first as head}
use Rattle.law_theorems.specs.Readings.{stack_at}
use Rattle.rule_statements.specs.Chains.{many}
use Rattle.rule_statements.specs.Arguments.{Passing}
use Rattle.rule_statements.proofs.simple.arguments.Given as goal

abbrev pub invariant-loop-q : goal.invariant-loop-q
invariant-loop-q l = (length l.work ≡ length l.initial.work) × Passing l.walk.text.now l.initial.work l.walk.types.now l.walk.scope l.frame l.first l.at l.top l.g l.p l.work

abbrev pub decreases-loop-q : goal.decreases-loop-q
decreases-loop-q l = many (head (stack_at l.walk.text.now l.g.next))
