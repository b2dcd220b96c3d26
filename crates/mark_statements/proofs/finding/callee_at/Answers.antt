use Rattle.mark_statements.proofs.Seeking.{callee-is}
use borrow.Author.Rules.{rules}
use Rattle.mark_statements.proofs.finding.callee_at.Goals as goal

pub returns : goal.returns
returns c = search (callee-is, rules)
