use lib.ListN.{length}
use Prim.Native.Nat.{◌-◌}
use Rattle.text_words.proofs.WordPasses.{Knowing}
use Rattle.text_words.proofs.lines.words_known.Given as goal

abbrev pub invariant-loop-h : goal.invariant-loop-h
invariant-loop-h l = Knowing l.text l.at l.p

abbrev pub decreases-loop-h : goal.decreases-loop-h
decreases-loop-h l = length l.text - l.p
