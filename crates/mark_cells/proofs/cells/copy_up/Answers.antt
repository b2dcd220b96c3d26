use Rattle.mark_cells.proofs.Storing.{onward-end, onward-next, onward-start}
use Rattle.mark_cells.proofs.cells.copy_up.Goals as goal

pub loop-i-init : goal.loop-i-init
loop-i-init c = search onward-start

pub loop-i-preserved : goal.loop-i-preserved
loop-i-preserved c = search onward-next

pub returns : goal.returns
returns c = search onward-end
