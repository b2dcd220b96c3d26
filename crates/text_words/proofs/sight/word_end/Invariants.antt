use lib.ListN.{length}
use Rattle.text_words.proofs.Looking.{Going}
use Prim.Native.Nat.{◌-◌}
use Rattle.text_words.proofs.sight.word_end.Given as goal

abbrev pub invariant-loop-p : goal.invariant-loop-p
invariant-loop-p l = Going l.text l.at l.p

abbrev pub decreases-loop-p : goal.decreases-loop-p
decreases-loop-p l = length l.text - l.p
