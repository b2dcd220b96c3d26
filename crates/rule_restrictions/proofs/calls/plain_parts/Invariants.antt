use mathlib.Core.Path.{◌≡◌}
use Rattle.law.specs.Trees.{first}
use Rattle.law_theorems.specs.Readings.{stack_at}
use Rattle.rule_restrictions.specs.Calls.{plain_count}
use Rattle.rule_restrictions.proofs.calls.plain_parts.Given as goal

abbrev pub invariant-loop-left : goal.invariant-loop-left
invariant-loop-left l = plain_count l.n (first (stack_at l.text l.at)) ≡ plain_count l.left (first (stack_at l.text l.p))

abbrev pub decreases-loop-left : goal.decreases-loop-left
decreases-loop-left l = l.left
