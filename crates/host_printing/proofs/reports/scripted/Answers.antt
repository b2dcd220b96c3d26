use Rattle.host_printing.proofs.Showing.{run-shows}
use borrow.Author.Rules.{rules}
use Rattle.host_printing.proofs.reports.scripted.Goals as goal

pub returns : goal.returns
returns c = (search run-shows, search rules)
