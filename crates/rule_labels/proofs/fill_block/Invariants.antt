use Rattle.rule_labels.proofs.Finding.{Filling}
use Rattle.rule_labels.proofs.fill_block.Given as goal

abbrev pub invariant-loop-n : goal.invariant-loop-n
invariant-loop-n l = Filling l.text l.work l.scope l.by l.initial.block l.at l.block l.n l.p
