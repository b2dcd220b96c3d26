use lib.ListN.{drop}
use Rattle.host_writing.proofs.Writing.{Still}
use Rattle.host_writing.proofs.putting.put_all.Given as goal

abbrev pub invariant-loop-b : goal.invariant-loop-b
invariant-loop-b l = Still l.bytes l.initial.out l.at (drop l.b-index l.bytes) l.out l.p
