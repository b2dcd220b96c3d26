use native.Mathlib.Omega.{arith}
use Prim.Native.Nat.{◌<◌}
use borrow.Author.Rules.{rules}
use Rattle.table_scope.proofs.Looping.{compare-few, compare-laws, compare-start}
use Rattle.table_scope.proofs.loops_over.Goals as goal

pub loop-j-init : goal.loop-j-init
loop-j-init c = compare-start _ _

pub bounds-over-j : goal.bounds-over-j
bounds-over-j c = search (compare-few, rules)

pub offset_bounds-over-j : goal.offset_bounds-over-j
offset_bounds-over-j c = let h : c.loop-j.j < 33 = search (compare-few, rules) in omega arith

pub returns-then-over-j : goal.returns-then-over-j
returns-then-over-j c = search compare-laws

pub loop-j-preserved : goal.loop-j-preserved
loop-j-preserved c = search compare-laws

pub returns : goal.returns
returns c = search compare-laws
