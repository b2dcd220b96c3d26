use Rattle.mark_acts.proofs.Arguing.{pass_laws}
use borrow.Author.Rules.{rules}
use Rattle.mark_acts.proofs.arguments.pass.Goals as goal

pub returns-in-Ok : goal.returns-in-Ok
returns-in-Ok c = search (pass_laws, rules)

pub returns-in-Err : goal.returns-in-Err
returns-in-Err c = search (pass_laws, rules)
