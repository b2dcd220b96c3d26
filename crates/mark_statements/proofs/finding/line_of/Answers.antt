use Rattle.mark_statements.proofs.Seeking.{line-is}
use borrow.Author.Rules.{rules}
use Rattle.mark_statements.proofs.finding.line_of.Goals as goal

pub returns : goal.returns
returns c = search (line-is, rules)
