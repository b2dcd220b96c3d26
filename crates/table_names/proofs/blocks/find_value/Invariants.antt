use mathlib.Core.List.{map}
use Rattle.leaf_bytes.specs.Bytes.{small}
use Rattle.law.specs.Trees.{word_at}
use Rattle.table_names.proofs.Ordering.{Halving}
use Rattle.table_names.proofs.blocks.find_value.Given as goal

abbrev pub invariant-loop-left : goal.invariant-loop-left
invariant-loop-left l = Halving l.text l.work l.place l.n l.key (map small (word_at l.text l.offset)) l.base l.low l.high l.left

abbrev pub decreases-loop-left : goal.decreases-loop-left
decreases-loop-left l = l.left
