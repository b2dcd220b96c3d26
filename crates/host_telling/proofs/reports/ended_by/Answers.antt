use Rattle.host_telling.proofs.Telling.{answer-as}
use borrow.Author.Rules.{rules}
use Rattle.host_telling.proofs.reports.ended_by.Goals as goal

pub returns : goal.returns
returns c = search (answer-as, rules)
