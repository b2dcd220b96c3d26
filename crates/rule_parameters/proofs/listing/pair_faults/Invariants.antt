use Rattle.law.specs.Trees.{first}
use Rattle.law_theorems.specs.Readings.{stack_at}
use Rattle.rule_enum_lines.specs.Enums.{many}
use Rattle.rule_parameters.proofs.Lists.{Judging}
use Rattle.rule_parameters.proofs.listing.pair_faults.Given as goal

abbrev pub invariant-loop-scope : goal.invariant-loop-scope
invariant-loop-scope l = Judging l.text l.work l.types l.scope l.own l.at l.p l.fault

abbrev pub decreases-loop-scope : goal.decreases-loop-scope
decreases-loop-scope l = many (first (stack_at l.text l.p))
