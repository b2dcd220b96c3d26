use Rattle.rule_type_lines.proofs.Aliases.{info-laid}
use Rattle.rule_type_lines.proofs.lay_info.Goals as goal

pub returns : goal.returns
returns c = search info-laid
