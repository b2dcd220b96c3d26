use Rattle.hostlink.proofs.Numbers.{verdict-told}
use borrow.Author.Rules.{rules}
use Rattle.hostlink.proofs.drive_verdict.Goals as goal

pub returns : goal.returns
returns c = (search verdict-told, search rules)
