-- The two-sided operators in the order of their numbers.
use Rattle.std.specs.Prelude.{List, [], ◌∷◌}
use Rattle.law.specs.Operators.{Op, plus, minus, times, power, divide, modulo, equal, unequal, less, at_most, greater, at_least, member, and_both, or_both}

-- the operators in order
abbrev pub operators : List Op
operators = plus ∷ minus ∷ times ∷ power ∷ divide ∷ modulo ∷ equal ∷ unequal ∷ less ∷ at_most ∷ greater ∷ at_least ∷ member ∷ and_both ∷ or_both ∷ []
