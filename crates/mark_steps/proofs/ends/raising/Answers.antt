use Rattle.mark_steps.proofs.Noting.{raising-is}
use borrow.Author.Rules.{rules}
use Rattle.mark_steps.proofs.ends.raising.Goals as goal

pub returns : goal.returns
returns c = search (raising-is, rules)
