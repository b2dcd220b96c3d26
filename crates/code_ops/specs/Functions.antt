-- The one-sided operators and functions in the order of their numbers.
use Rattle.std.specs.Prelude.{List, [], ◌∷◌}
use Rattle.law.specs.Operators.{Fun, negate, not_of, abs, sqr, odd, ord, pred, succ, card, setmin, setmax}

-- the functions in that order
abbrev pub functions : List Fun
functions = negate ∷ not_of ∷ abs ∷ sqr ∷ odd ∷ ord ∷ pred ∷ succ ∷ card ∷ setmin ∷ setmax ∷ []
