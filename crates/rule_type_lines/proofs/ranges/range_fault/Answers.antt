use borrow.Author.Rules.{sfits_of}
use Rattle.rule_type_lines.proofs.RangeTypes.{fault_laws}
use Rattle.rule_type_lines.proofs.ranges.range_fault.Goals.{else-a-b-via-then-a-b+else-y-z, else-a-b-via-else-a-b}
use Rattle.rule_type_lines.proofs.ranges.range_fault.Goals as goal

pub returns-then-y-z : goal.returns-then-y-z
returns-then-y-z c = search (fault_laws, sfits_of)

pub returns-else-a-b : goal.returns-else-a-b
returns-else-a-b c = elim c.else-a-b.branch [
  | else-a-b-via-then-a-b+else-y-z w ↦ search (fault_laws, sfits_of)
  | else-a-b-via-else-a-b w ↦ search (fault_laws, sfits_of)
]
