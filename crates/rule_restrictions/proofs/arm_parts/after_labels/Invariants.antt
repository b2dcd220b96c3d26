use Rattle.law.specs.Trees.{first}
use Rattle.law_theorems.specs.Readings.{stack_at}
use Rattle.rule_statements.specs.Chains.{many}
use Rattle.rule_restrictions.proofs.ArmLabels.{Passing}
use Rattle.rule_restrictions.proofs.arm_parts.after_labels.Given as goal

abbrev pub invariant-loop-q : goal.invariant-loop-q
invariant-loop-q l = Passing l.text l.at l.p

abbrev pub decreases-loop-q : goal.decreases-loop-q
decreases-loop-q l = many (first (stack_at l.text l.p))
