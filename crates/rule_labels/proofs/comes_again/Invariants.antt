use Rattle.law_theorems.specs.Readings.{stack_at}
use Rattle.text_words.specs.Passes.{nodes_all}
use Rattle.rule_labels.proofs.Finding.{Comparing}
use Rattle.rule_labels.proofs.comes_again.Given as goal

abbrev pub invariant-loop-z : goal.invariant-loop-z
invariant-loop-z l = Comparing l.text l.work l.scope l.by l.block l.at l.p

abbrev pub decreases-loop-z : goal.decreases-loop-z
decreases-loop-z l = nodes_all (stack_at l.text l.p)
