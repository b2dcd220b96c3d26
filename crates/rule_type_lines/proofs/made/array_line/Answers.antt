use Rattle.rule_type_lines.proofs.MadeLines.{made-is}
use Rattle.rule_type_lines.proofs.made.array_line.Goals as goal

pub returns : goal.returns
returns c = search made-is
