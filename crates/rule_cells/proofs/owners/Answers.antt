use Rattle.rule_texts.proofs.Texts.{part-laws, verdict-clears}
use Rattle.rule_cells.proofs.Counts.{cells-told, owners-told}
use borrow.Author.Rules.{rules}
use Rattle.rule_cells.proofs.owners.Goals as goal

pub slice_bounds-check-end-2 : goal.slice_bounds-check-end-2
slice_bounds-check-end-2 c = search (part-laws, rules)

pub slice_bounds-name_checked-end-2 : goal.slice_bounds-name_checked-end-2
slice_bounds-name_checked-end-2 c = search (part-laws, rules)

pub returns : goal.returns
returns c = (search cells-told, search verdict-clears, search owners-told)
