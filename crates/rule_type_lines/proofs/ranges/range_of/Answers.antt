use borrow.Author.Rules.{sfits_of}
use Rattle.rule_type_lines.proofs.RangeTypes.{range_laws}
use Rattle.rule_type_lines.proofs.ranges.range_of.Goals as goal

pub returns-then-is_form : goal.returns-then-is_form
returns-then-is_form c = search (range_laws, sfits_of)

pub returns : goal.returns
returns c = search (range_laws, sfits_of)
