use Rattle.rule_type_lines.proofs.Aliases.{alias_laws}
use Rattle.rule_type_lines.proofs.alias_line.Goals as goal

pub returns-then-is_clear : goal.returns-then-is_clear
returns-then-is_clear c = search alias_laws

pub returns-else-is_clear : goal.returns-else-is_clear
returns-else-is_clear c = search alias_laws
