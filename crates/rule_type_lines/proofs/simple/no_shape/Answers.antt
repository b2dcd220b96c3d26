use Rattle.rule_type_lines.proofs.ArrayTypes.{no-shape-is}
use Rattle.rule_type_lines.proofs.simple.no_shape.Goals as goal

pub returns : goal.returns
returns c = search no-shape-is
