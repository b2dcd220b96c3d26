use Rattle.host_input.proofs.Arriving.{part-long}
use borrow.Author.Rules.{rules}
use Rattle.cases.proofs.passes.Goals as goal

pub slice_bounds-answer-end-2 : goal.slice_bounds-answer-end-2
slice_bounds-answer-end-2 g c = search (part-long, rules)
