use Rattle.mark_expressions.proofs.Naming.{place-laws, place-rest}
use Rattle.mark_expressions.proofs.words.named_place.Goals as goal

pub returns-in-Var : goal.returns-in-Var
returns-in-Var c = search place-laws

pub returns-in_default : goal.returns-in_default
returns-in_default c = place-rest _ _ c.in_default.not-Var
