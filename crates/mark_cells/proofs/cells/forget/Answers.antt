use borrow.Author.Rules.{rules}
use Rattle.mark_cells.proofs.Storing.{fill_end, fill_start, forget-next}
use Rattle.mark_cells.proofs.cells.forget.Goals as goal

pub loop-i-init : goal.loop-i-init
loop-i-init c = search fill_start

pub loop-i-preserved : goal.loop-i-preserved
loop-i-preserved c = search (forget-next, rules)

pub returns : goal.returns
returns c = search fill_end
