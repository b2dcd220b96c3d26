use mathlib.Core.List.{map}
use Rattle.leaf_bytes.specs.Bytes.{small}
use Rattle.law.specs.Trees.{word_at}
use Rattle.table_scope.proofs.Fields.{Asking}
use Rattle.table_scope.proofs.find_field.Given as goal

abbrev pub invariant-loop-j : goal.invariant-loop-j
invariant-loop-j l = Asking l.text l.work (map small (word_at l.text l.offset)) l.place l.fields l.j
