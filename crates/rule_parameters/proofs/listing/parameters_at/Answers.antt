use Rattle.rule_parameters.proofs.Lists.{list-laws}
use borrow.Author.Rules.{rules}
use Rattle.rule_parameters.proofs.listing.parameters_at.Goals as goal

pub returns-in_default : goal.returns-in_default
returns-in_default c = search (list-laws, rules)

pub returns-then-is_clear : goal.returns-then-is_clear
returns-then-is_clear c = search (list-laws, rules)

pub returns : goal.returns
returns c = search (list-laws, rules)
