use native.Mathlib.Omega.{arith}
use borrow.Author.Rules.{rules}
use Rattle.rule_cells.proofs.Counts.{named-next, named_start, names-done}
use Rattle.rule_cells.proofs.name_cells.Goals as goal

pub loop-i-init : goal.loop-i-init
loop-i-init c = search named_start

pub loop-i-preserved : goal.loop-i-preserved
loop-i-preserved c = named-next _ _ _ _ _ _ c.loop-i.invariant _ (omega arith) (omega arith) c.owner.ensures

pub returns : goal.returns
returns c = search (names-done, rules)
