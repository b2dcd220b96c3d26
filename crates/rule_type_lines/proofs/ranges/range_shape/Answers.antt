use borrow.Author.Rules.{sfits_of}
use Rattle.rule_type_lines.proofs.RangeTypes.{shape_is}
use Rattle.rule_type_lines.proofs.ranges.range_shape.Goals as goal

pub returns : goal.returns
returns c = search (shape_is, sfits_of)
