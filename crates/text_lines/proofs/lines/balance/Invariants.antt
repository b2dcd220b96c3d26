use Rattle.text_lines.proofs.LinePasses.{Walks}
use Rattle.text_lines.proofs.lines.balance.Given as goal

abbrev pub invariant-loop-p : goal.invariant-loop-p
invariant-loop-p l = Walks l.text l.at l.p l.q
