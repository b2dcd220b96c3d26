use Rattle.law_theorems.specs.Readings.{stack_at}
use Rattle.text_words.specs.Passes.{nodes_all}
use Rattle.rule_labels.proofs.Finding.{Clearing}
use Rattle.rule_labels.proofs.differ_from.Given as goal

abbrev pub invariant-loop-block : goal.invariant-loop-block
invariant-loop-block l = Clearing l.text l.work l.scope l.by l.initial.block l.at l.block l.p

abbrev pub decreases-loop-block : goal.decreases-loop-block
decreases-loop-block l = nodes_all (stack_at l.text l.p)
