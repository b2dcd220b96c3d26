use Rattle.rule_texts.proofs.Texts.{part-laws}
use Rattle.mark_texts.proofs.MarkWays.{list-clears, mark-told}
use borrow.Author.Rules.{rules}
use Rattle.mark_texts.proofs.mark.Goals as goal

pub slice_bounds-check_loosely-end-2 : goal.slice_bounds-check_loosely-end-2
slice_bounds-check_loosely-end-2 c = search (part-laws, rules)

pub slice_bounds-mark_checked-end-2 : goal.slice_bounds-mark_checked-end-2
slice_bounds-mark_checked-end-2 c = search (part-laws, rules)

pub returns : goal.returns
returns c = (search mark-told, search list-clears)
