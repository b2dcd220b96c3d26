use Rattle.rule_declarations.proofs.VarLines.{var_line_laws}
use Rattle.rule_declarations.proofs.var_line.Goals as goal

pub returns-in-Some : goal.returns-in-Some
returns-in-Some c = search var_line_laws

pub returns-in-None : goal.returns-in-None
returns-in-None c = search var_line_laws
