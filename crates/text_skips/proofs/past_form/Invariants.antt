use Rattle.law_theorems.specs.Readings.{stack_at}
use Rattle.text_words.specs.Passes.{nodes_all}
use Rattle.text_skips.proofs.Skipping.{Inside}
use Prim.Native.Nat.{◌+◌, ◌*◌}
use Rattle.text_skips.proofs.past_form.Given as goal

abbrev pub invariant-loop-q : goal.invariant-loop-q
invariant-loop-q l = Inside l.text l.at l.p l.n

abbrev pub decreases-loop-q : goal.decreases-loop-q
decreases-loop-q l = 2 * nodes_all (stack_at l.text l.p) + l.n
