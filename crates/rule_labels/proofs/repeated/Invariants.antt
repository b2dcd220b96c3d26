use Rattle.rule_labels.proofs.Finding.{Differing}
use Rattle.rule_labels.proofs.repeated.Given as goal

abbrev pub invariant-loop-i : goal.invariant-loop-i
invariant-loop-i l = Differing l.block l.i
