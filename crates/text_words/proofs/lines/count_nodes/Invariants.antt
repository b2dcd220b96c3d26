use lib.ListN.{length}
use Prim.Native.Nat.{◌-◌}
use Rattle.text_words.proofs.WordPasses.{Counting}
use Rattle.text_words.proofs.lines.count_nodes.Given as goal

abbrev pub invariant-loop-h : goal.invariant-loop-h
invariant-loop-h l = Counting l.text l.at l.p l.n

abbrev pub decreases-loop-h : goal.decreases-loop-h
decreases-loop-h l = length l.text - l.p
