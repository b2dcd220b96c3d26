use Rattle.hostlink.proofs.Numbers.{mark-told}
use borrow.Author.Rules.{rules}
use Rattle.hostlink.proofs.drive_mark.Goals as goal

pub returns : goal.returns
returns c = (search mark-told, search rules)
