use lib.ListN.{length}
use mathlib.Core.Path.{◌≡◌}
use Rattle.law.specs.Trees.{first as head}
use Rattle.law_theorems.specs.Readings.{stack_at}
use Rattle.rule_statements.specs.Chains.{many}
use Rattle.rule_statements.specs.Cases.{Labelling}
use Rattle.rule_statements.proofs.arm_labels.labels.Given as goal

abbrev pub invariant-loop-scope : goal.invariant-loop-scope
invariant-loop-scope l = (length l.work ≡ length l.initial.work) × Labelling l.text l.initial.work l.scope l.k l.first l.at l.top l.g l.p l.work

abbrev pub decreases-loop-scope : goal.decreases-loop-scope
decreases-loop-scope l = many (head (stack_at l.text l.g.next))
