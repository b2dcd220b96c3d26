use Rattle.rule_parameters.proofs.Lists.{fault-laws}
use borrow.Author.Rules.{rules}
use Rattle.rule_parameters.proofs.listing.pair_fault.Goals as goal

pub returns-then-same_word : goal.returns-then-same_word
returns-then-same_word c = search (fault-laws, rules)

pub returns : goal.returns
returns c = search (fault-laws, rules)
