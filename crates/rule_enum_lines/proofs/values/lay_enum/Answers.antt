use Rattle.rule_enum_lines.proofs.EnumValues.{lays-enum}
use Rattle.rule_enum_lines.proofs.values.lay_enum.Goals as goal

pub returns : goal.returns
returns c = search lays-enum
