use Rattle.hostlink.proofs.Numbers.{run-told}
use borrow.Author.Rules.{rules}
use Rattle.hostlink.proofs.drive_run.Goals as goal

pub returns : goal.returns
returns c = (search run-told, search rules)
