use borrow.Author.Rules.{rules}
use Rattle.mark_cells.proofs.Storing.{back_end, back-next, back_start}
use Rattle.mark_cells.proofs.cells.copy_down.Goals as goal

pub loop-i-init : goal.loop-i-init
loop-i-init c = search back_start

pub loop-i-preserved : goal.loop-i-preserved
loop-i-preserved c = search (back-next, rules)

pub returns : goal.returns
returns c = search back_end
