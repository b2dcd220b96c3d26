use lib.ListN.{drop}
use mathlib.Core.List.{map}
use Rattle.leaf_bytes.specs.Bytes.{small}
use Rattle.host_writing.proofs.Writing.{Still}
use Rattle.host_writing.proofs.putting.put_small.Given as goal

abbrev pub invariant-loop-b : goal.invariant-loop-b
invariant-loop-b l = Still (map small l.bytes) l.initial.out l.at (map small (drop l.b-index l.bytes)) l.out l.p
