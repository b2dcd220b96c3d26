use Rattle.rule_declarations.proofs.VarLines.{after_laws}
use Rattle.rule_declarations.proofs.var_after.Goals as goal

pub returns-then-is_clear : goal.returns-then-is_clear
returns-then-is_clear c = search after_laws

pub returns-else-is_clear : goal.returns-else-is_clear
returns-else-is_clear c = search after_laws
