use mathlib.Core.List.{map}
use lib.ListN.{length}
use Rattle.leaf_bytes.specs.Bytes.{small}
use Rattle.law.specs.Trees.{first, list, word_at}
use Rattle.law_theorems.specs.Readings.{stack_at}
use Rattle.table_scope.proofs.PairWays.{Seeking}
use Rattle.table_scope.proofs.pairs.find_pair.Given as goal

abbrev pub invariant-loop-q : goal.invariant-loop-q
invariant-loop-q l = Seeking l.text l.at (map small (word_at l.text l.offset)) l.j l.p

abbrev pub decreases-loop-q : goal.decreases-loop-q
decreases-loop-q l = length (list (first (stack_at l.text l.p)))
