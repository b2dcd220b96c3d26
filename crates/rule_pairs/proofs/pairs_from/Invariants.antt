use Rattle.law.specs.Trees.{first}
use Rattle.law_theorems.specs.Readings.{stack_at}
use Rattle.rule_enum_lines.specs.Enums.{many}
use Rattle.rule_pairs.proofs.PairParts.{Walking}
use Rattle.rule_pairs.proofs.pairs_from.Given as goal

abbrev pub invariant-loop-scope : goal.invariant-loop-scope
invariant-loop-scope l = Walking l.text l.work l.types l.scope l.at l.p l.n l.size l.ok

abbrev pub decreases-loop-scope : goal.decreases-loop-scope
decreases-loop-scope l = many (first (stack_at l.text l.p))
