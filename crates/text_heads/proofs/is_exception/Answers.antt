use Rattle.text_heads.proofs.Arms.{kind-laws}
use borrow.Author.Rules.{rules}
use Rattle.text_heads.proofs.is_exception.Goals as goal

pub returns-in-Reserved : goal.returns-in-Reserved
returns-in-Reserved c = search (kind-laws, rules)
