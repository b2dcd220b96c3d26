use Rattle.table_names.proofs.Names.{link-there}
use borrow.Author.Rules.{rules}
use Rattle.table_names.proofs.link_at.Goals as goal

pub returns-then-i-work : goal.returns-then-i-work
returns-then-i-work c = search (link-there, rules)

pub returns : goal.returns
returns c = search (link-there, rules)
