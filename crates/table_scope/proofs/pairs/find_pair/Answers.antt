use Rattle.table_scope.proofs.PairWays.{pairs-fewer, seek-laws, seek-start}
use Rattle.table_scope.proofs.pairs.find_pair.Goals as goal

pub loop-q-init : goal.loop-q-init
loop-q-init c = seek-start _ _ _

pub returns-then-same_word : goal.returns-then-same_word
returns-then-same_word c = search seek-laws

pub loop-q-smaller : goal.loop-q-smaller
loop-q-smaller c = search pairs-fewer

pub loop-q-preserved : goal.loop-q-preserved
loop-q-preserved c = search seek-laws

pub returns-in-Leaf : goal.returns-in-Leaf
returns-in-Leaf c = search seek-laws

pub returns-in-Shut : goal.returns-in-Shut
returns-in-Shut c = search seek-laws
