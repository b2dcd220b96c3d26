use borrow.Author.Rules.{sfits_of}
use Rattle.rule_type_lines.proofs.RangeTypes.{bits_laws}
use Rattle.rule_type_lines.proofs.ranges.bits_of.Goals as goal

pub returns-then-z-lt0 : goal.returns-then-z-lt0
returns-then-z-lt0 c = search (bits_laws, sfits_of)

pub returns-else-z-lt0 : goal.returns-else-z-lt0
returns-else-z-lt0 c = search (bits_laws, sfits_of)
