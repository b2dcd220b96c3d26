use mathlib.Core.Path.{◌≡◌}
use Prim.Native.Nat.{◌≤◌}
use lib.ListN.{drop}
use Rattle.leaf_words.specs.Numbers.{numeral, at_most, digits}
use Rattle.leaf_words.proofs.numbers.numeral_of.Given as goal

abbrev pub invariant-loop-b : goal.invariant-loop-b
invariant-loop-b l = (l.sum ≤ l.most) × (numeral l.base l.most l.w ≡ at_most l.most (digits l.base l.sum (drop l.b-index l.w)))
