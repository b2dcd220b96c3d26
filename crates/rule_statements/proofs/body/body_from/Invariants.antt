use lib.ListN.{length}
use mathlib.Core.Path.{◌≡◌}
use Rattle.law.specs.Trees.{first}
use Rattle.law_theorems.specs.Readings.{stack_at}
use Rattle.rule_statements.specs.Chains.{many}
use Rattle.rule_statements.specs.Fronts.{Fronting}
use Rattle.rule_statements.proofs.body.body_from.Given as goal

abbrev pub invariant-loop-q : goal.invariant-loop-q
invariant-loop-q l = (length l.work ≡ length l.initial.work) × Fronting l.walk.text.now l.initial.work l.walk.types.now l.walk.scope l.number l.start l.at l.top l.g l.p l.work

abbrev pub decreases-loop-q : goal.decreases-loop-q
decreases-loop-q l = many (first (stack_at l.walk.text.now l.g.next))
