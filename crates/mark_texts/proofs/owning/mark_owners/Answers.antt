use Rattle.rule_texts.proofs.Texts.{part-laws}
use Rattle.mark_texts.proofs.Counts.{cells-told, owners-told}
use Rattle.mark_texts.proofs.MarkWays.{list-clears}
use borrow.Author.Rules.{rules}
use Rattle.mark_texts.proofs.owning.mark_owners.Goals as goal

pub slice_bounds-check_loosely-end-2 : goal.slice_bounds-check_loosely-end-2
slice_bounds-check_loosely-end-2 c = search (part-laws, rules)

pub slice_bounds-name_checked-end-2 : goal.slice_bounds-name_checked-end-2
slice_bounds-name_checked-end-2 c = search (part-laws, rules)

pub returns : goal.returns
returns c = (search cells-told, search list-clears, search owners-told)
