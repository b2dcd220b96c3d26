use Rattle.rule_enum_lines.proofs.EnumValues.{adds-enum}
use Rattle.rule_enum_lines.proofs.values.add_enum.Goals as goal

pub returns : goal.returns
returns c = search adds-enum
