use borrow.Author.Rules.{rules}
use Rattle.host_replies.proofs.Numbers.{report-laws}
use Rattle.host_replies.proofs.reported.Goals as goal

pub returns-in-Err : goal.returns-in-Err
returns-in-Err c = search report-laws

pub returns-in-Ok : goal.returns-in-Ok
returns-in-Ok c = search (report-laws, rules)
