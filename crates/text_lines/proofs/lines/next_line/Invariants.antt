use mathlib.Core.Path.{◌≡◌}
use lib.ListN.{drop}
use Prim.Native.Nat.{◌≤◌}
use Rattle.text_lines.specs.Passes.{after_line}
use Rattle.text_lines.proofs.lines.next_line.Given as goal

abbrev pub invariant-loop-p : goal.invariant-loop-p
invariant-loop-p l = (after_line (drop l.at l.text) ≡ after_line (drop l.p l.text)) × (l.at ≤ l.p)
