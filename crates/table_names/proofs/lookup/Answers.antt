use borrow.Author.Rules.{rules}
use Rattle.table_names.proofs.Names.{walk-laws, walk-less-laws, walk_start}
use Rattle.table_names.proofs.lookup.Goals as goal

pub loop-s-init : goal.loop-s-init
loop-s-init c = walk_start _ _ _ _ _

pub returns-then-s-eq0 : goal.returns-then-s-eq0
returns-then-s-eq0 c = search (walk-laws, rules)

pub returns-then-is_called : goal.returns-then-is_called
returns-then-is_called c = search (walk-laws, rules)

pub loop-s-smaller-then-e-eq0 : goal.loop-s-smaller-then-e-eq0
loop-s-smaller-then-e-eq0 c = search walk-less-laws

pub loop-s-preserved-then-e-eq0 : goal.loop-s-preserved-then-e-eq0
loop-s-preserved-then-e-eq0 c = search (walk-laws, rules)

pub returns-then-q-gt0 : goal.returns-then-q-gt0
returns-then-q-gt0 c = search (walk-laws, rules)

pub loop-s-smaller : goal.loop-s-smaller
loop-s-smaller c = search walk-less-laws

pub loop-s-preserved : goal.loop-s-preserved
loop-s-preserved c = search (walk-laws, rules)
