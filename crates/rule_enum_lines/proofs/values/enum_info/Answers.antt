use Rattle.rule_enum_lines.proofs.EnumValues.{enum-info-is}
use Rattle.rule_enum_lines.proofs.values.enum_info.Goals as goal

pub returns : goal.returns
returns c = search enum-info-is
