use Rattle.rule_enum_lines.proofs.EnumValues.{value-laid}
use Rattle.rule_enum_lines.proofs.values.lay_value.Goals as goal

pub returns : goal.returns
returns c = search value-laid
