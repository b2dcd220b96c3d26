use mathlib.Core.Path.{◌≡◌}
use lib.ListN.{drop}
use Rattle.leaf_bytes.specs.Names.{goes_on}
use Rattle.leaf_bytes.proofs.names.goes_on.Given as goal

abbrev pub invariant-loop-i : goal.invariant-loop-i
invariant-loop-i l = goes_on (drop 1 l.w) ≡ goes_on (drop l.i l.w)
