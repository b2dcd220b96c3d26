use Rattle.rule_declarations.proofs.VarLines.{var_laid}
use Rattle.rule_declarations.proofs.lay_var.Goals as goal

pub returns : goal.returns
returns c = search var_laid
