use Rattle.rule_type_lines.proofs.SimpleLines.{add-type-is}
use Rattle.rule_type_lines.proofs.add_type.Goals as goal

pub returns : goal.returns
returns c = search add-type-is
