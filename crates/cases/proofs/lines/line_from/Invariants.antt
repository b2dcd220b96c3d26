use Rattle.std.proofs.Common.{◌-◌, ◌≤◌, length}
use Rattle.cases.proofs.lines.line_from.Given as goal

abbrev pub invariant-loop-q : goal.invariant-loop-q
invariant-loop-q g l = (l.p ≤ l.q) × (l.q ≤ length l.text)

abbrev pub decreases-loop-q : goal.decreases-loop-q
decreases-loop-q g l = length l.text - l.q
