use Rattle.host_printing.proofs.Showing.{mark-shows}
use borrow.Author.Rules.{rules}
use Rattle.host_printing.proofs.markings.mark_scripted.Goals as goal

pub returns : goal.returns
returns c = (search mark-shows, search rules)
