use Rattle.hostlink.proofs.Numbers.{count-told}
use borrow.Author.Rules.{rules}
use Rattle.hostlink.proofs.drive_mark_owners.Goals as goal

pub returns : goal.returns
returns c = (search count-told, search rules, search rules)
