use Rattle.mark_machine.proofs.Whole.{mark-is}
use borrow.Author.Rules.{rules}
use Rattle.mark_machine.proofs.mark_with.Goals as goal

pub returns : goal.returns
returns c = search (mark-is, rules)
