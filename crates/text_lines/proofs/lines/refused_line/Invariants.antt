use Rattle.text_lines.proofs.LinePasses.{Seeking}
use Rattle.text_lines.proofs.lines.refused_line.Given as goal

abbrev pub invariant-loop-p : goal.invariant-loop-p
invariant-loop-p l = Seeking l.text l.n l.p
