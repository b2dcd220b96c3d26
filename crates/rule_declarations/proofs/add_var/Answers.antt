use Rattle.rule_declarations.proofs.VarLines.{adds_laws}
use Rattle.rule_declarations.proofs.add_var.Goals as goal

pub returns-then-vars_fit : goal.returns-then-vars_fit
returns-then-vars_fit c = search adds_laws

pub returns-else-vars_fit : goal.returns-else-vars_fit
returns-else-vars_fit c = search adds_laws
