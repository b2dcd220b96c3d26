use Rattle.rule_enum_lines.proofs.EnumValues.{lays-described}
use Rattle.rule_enum_lines.proofs.values.lay_described.Goals as goal

pub returns : goal.returns
returns c = search lays-described
