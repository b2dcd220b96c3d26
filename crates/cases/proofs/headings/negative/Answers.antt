use Rattle.cases.proofs.Bounds.{negated_fits}
use borrow.Author.Rules.{rules}
use Rattle.cases.proofs.headings.negative.Goals as goal

pub overflow_sub-result : goal.overflow_sub-result
overflow_sub-result c = search (negated_fits, rules)
