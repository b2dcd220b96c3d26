use Rattle.rule_type_lines.proofs.SimpleLines.{lay-type-is}
use Rattle.rule_type_lines.proofs.lay_type.Goals as goal

pub returns : goal.returns
returns c = search lay-type-is
