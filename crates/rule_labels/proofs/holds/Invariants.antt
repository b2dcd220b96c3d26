use Rattle.rule_labels.proofs.Finding.{Holding}
use Rattle.rule_labels.proofs.holds.Given as goal

abbrev pub invariant-loop-y : goal.invariant-loop-y
invariant-loop-y l = Holding l.block l.z l.any l.y-index
