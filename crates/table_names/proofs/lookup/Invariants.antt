use mathlib.Core.List.{map}
use Rattle.leaf_bytes.specs.Bytes.{small}
use Rattle.law.specs.Trees.{word_at}
use Rattle.table_names.proofs.Names.{Walking}
use Rattle.table_names.proofs.lookup.Given as goal

abbrev pub invariant-loop-s : goal.invariant-loop-s
invariant-loop-s l = Walking l.text l.work (map small (word_at l.text l.offset)) l.count l.newest l.n l.p

abbrev pub decreases-loop-s : goal.decreases-loop-s
decreases-loop-s l = l.n
