use borrow.Author.Rules.{rules, sfits_of}
use Rattle.text_heads.proofs.Arms.{kind-laws}
use borrow.Author.Rules.{rules}
use Rattle.text_heads.proofs.atom_of.Goals as goal

pub returns-in-Number : goal.returns-in-Number
returns-in-Number c = search (kind-laws, sfits_of, rules)

pub returns-in-Reserved : goal.returns-in-Reserved
returns-in-Reserved c = search (kind-laws, sfits_of, rules)
