use native.Mathlib.Omega.{arith}
use borrow.Author.Rules.{rules}
use Rattle.host_writing.proofs.Writing.{rows-done, rows-laws, still-long, still-start}
use Rattle.host_writing.proofs.rows.cell_rows.Goals as goal

pub loop-i-init : goal.loop-i-init
loop-i-init c = still-start _ _ _

pub loop-i-preserved : goal.loop-i-preserved
loop-i-preserved c = search (rows-laws, rules)

pub shape_of-out : goal.shape_of-out
shape_of-out c = search (still-long, rules)

pub returns : goal.returns
returns c = search (rows-done, rules)
