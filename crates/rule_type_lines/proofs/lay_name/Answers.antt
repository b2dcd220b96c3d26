use Rattle.rule_type_lines.proofs.Aliases.{name-laid}
use Rattle.rule_type_lines.proofs.lay_name.Goals as goal

pub returns : goal.returns
returns c = search name-laid
