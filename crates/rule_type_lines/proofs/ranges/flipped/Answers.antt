use borrow.Author.Rules.{sfits_of}
use Rattle.rule_type_lines.proofs.RangeTypes.{flip_laws}
use Rattle.rule_type_lines.proofs.ranges.flipped.Goals as goal

pub returns-in-Ok : goal.returns-in-Ok
returns-in-Ok c = search (flip_laws, sfits_of)
