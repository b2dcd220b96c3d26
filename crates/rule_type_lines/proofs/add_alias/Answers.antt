use Rattle.rule_type_lines.proofs.Aliases.{add_alias_laws}
use Rattle.rule_type_lines.proofs.add_alias.Goals as goal

pub returns-then-lines_fit : goal.returns-then-lines_fit
returns-then-lines_fit c = search add_alias_laws
