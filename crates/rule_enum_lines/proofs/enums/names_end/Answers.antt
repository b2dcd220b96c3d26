use Rattle.rule_enum_lines.proofs.EnumNames.{end_laws}
use Rattle.rule_enum_lines.proofs.enums.names_end.Goals as goal

pub returns-in-Some : goal.returns-in-Some
returns-in-Some c = search end_laws

pub returns-in-None : goal.returns-in-None
returns-in-None c = search end_laws
