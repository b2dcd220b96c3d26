use Rattle.rule_type_lines.proofs.ArrayTypes.{array-shape-is}
use Rattle.rule_type_lines.proofs.simple.array_shape.Goals as goal

pub returns : goal.returns
returns c = search array-shape-is
