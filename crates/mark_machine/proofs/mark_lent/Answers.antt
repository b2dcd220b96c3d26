use Rattle.mark_machine.proofs.Whole.{mark-all}
use borrow.Author.Rules.{rules}
use Rattle.mark_machine.proofs.mark_lent.Goals as goal

pub returns : goal.returns
returns c = search (mark-all, rules)
