use Rattle.rule_enum_lines.proofs.EnumLines.{enum_laws}
use Rattle.rule_enum_lines.proofs.values.enum_line.Goals as goal

pub returns-then-lines_fit : goal.returns-then-lines_fit
returns-then-lines_fit c = search enum_laws

pub returns-else-lines_fit : goal.returns-else-lines_fit
returns-else-lines_fit c = search enum_laws

pub returns-else-is_clear : goal.returns-else-is_clear
returns-else-is_clear c = search enum_laws
