use Rattle.law.specs.Trees.{first}
use Rattle.law_theorems.specs.Readings.{stack_at}
use Rattle.rule_enum_lines.specs.Enums.{many}
use Rattle.rule_enum_lines.proofs.EnumNames.{Counting}
use Rattle.rule_enum_lines.proofs.enums.enum_names.Given as goal

abbrev pub invariant-loop-name : goal.invariant-loop-name
invariant-loop-name l = Counting l.text l.work l.scope l.at l.p l.n l.ok

abbrev pub decreases-loop-name : goal.decreases-loop-name
decreases-loop-name l = many (first (stack_at l.text l.p))
