use Rattle.rule_enum_lines.proofs.EnumValues.{enum-name-laid}
use Rattle.rule_enum_lines.proofs.values.lay_enum_name.Goals as goal

pub returns : goal.returns
returns c = search enum-name-laid
