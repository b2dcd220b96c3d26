use Rattle.law_theorems.specs.Readings.{stack_at}
use Rattle.text_words.specs.Passes.{nodes_all}
use Rattle.mark_counts.proofs.Counting.{Counting}
use Prim.Native.Nat.{◌+◌, ◌*◌}
use Rattle.mark_counts.proofs.count_form.Given as goal

abbrev pub invariant-loop-q : goal.invariant-loop-q
invariant-loop-q l = Counting l.text l.at l.p l.m l.n

abbrev pub decreases-loop-q : goal.decreases-loop-q
decreases-loop-q l = 2 * nodes_all (stack_at l.text l.p) + l.m
