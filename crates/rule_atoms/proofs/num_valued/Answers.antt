use borrow.Author.Rules.{sfits_of}
use Rattle.rule_atoms.proofs.Ways.{num_laws}
use Rattle.rule_atoms.proofs.num_valued.Goals as goal

pub returns-in-Ok : goal.returns-in-Ok
returns-in-Ok c = search (num_laws, sfits_of)

pub returns-in-Err : goal.returns-in-Err
returns-in-Err c = search (num_laws, sfits_of)
