use Rattle.mark_expressions.proofs.Naming.{name-laws, name-rest}
use Rattle.mark_expressions.proofs.words.named.Goals as goal

pub returns-in-Var : goal.returns-in-Var
returns-in-Var c = search name-laws

pub returns-in-Value : goal.returns-in-Value
returns-in-Value c = search name-laws

pub returns-in_default : goal.returns-in_default
returns-in_default c = name-rest _ _ _ _ _ c.in_default.not-Var c.in_default.not-Value
