use Rattle.rule_enum_lines.proofs.EnumNames.{new_told}
use Rattle.rule_enum_lines.proofs.enums.is_new.Goals as goal

pub returns : goal.returns
returns c = search new_told
