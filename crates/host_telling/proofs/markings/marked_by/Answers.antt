use borrow.Author.Rules.{sfits_of}
use Rattle.host_telling.proofs.MarkTelling.{marked-laws}
use Rattle.host_telling.proofs.markings.marked_by.Goals as goal

pub returns-in-Normal : goal.returns-in-Normal
returns-in-Normal c = search (marked-laws, sfits_of)

pub returns-in-Raised : goal.returns-in-Raised
returns-in-Raised c = search (marked-laws, sfits_of)

pub returns-in-Spent : goal.returns-in-Spent
returns-in-Spent c = search (marked-laws, sfits_of)

pub returns-in-Stuck : goal.returns-in-Stuck
returns-in-Stuck c = search (marked-laws, sfits_of)
