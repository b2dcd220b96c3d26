use mathlib.Core.Path.{◌≡◌}
use Rattle.law_theorems.specs.Readings.{stack_at}
use Rattle.text_words.proofs.sight.look.Given as goal

abbrev pub invariant-loop-p : goal.invariant-loop-p
invariant-loop-p l = stack_at l.text l.at ≡ stack_at l.text l.p
