use Rattle.mark_expressions.proofs.Naming.{var-laws, var-rest}
use Rattle.mark_expressions.proofs.tables.Tables.variable.Goals as goal

pub returns-in-Named : goal.returns-in-Named
returns-in-Named c = search var-laws

pub returns-in_default : goal.returns-in_default
returns-in_default c = var-rest _ _ _ _ _ _ c.atom_of.ensures _ c.in_default.not-Named
