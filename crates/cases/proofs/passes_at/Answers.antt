use Rattle.host_input.proofs.Arriving.{part-long}
use borrow.Author.Rules.{rules}
use Rattle.cases.proofs.passes_at.Goals as goal

pub slice_bounds-agrees-end : goal.slice_bounds-agrees-end
slice_bounds-agrees-end c = search (part-long, rules)
