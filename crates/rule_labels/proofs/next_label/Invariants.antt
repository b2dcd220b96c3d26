use Rattle.law_theorems.specs.Readings.{stack_at}
use Rattle.text_words.specs.Passes.{nodes_all}
use Rattle.rule_labels.proofs.Hopping.{Seeking}
use Rattle.rule_labels.proofs.next_label.Given as goal

abbrev pub invariant-loop-m : goal.invariant-loop-m
invariant-loop-m l = Seeking l.text l.at l.p

abbrev pub decreases-loop-m : goal.decreases-loop-m
decreases-loop-m l = nodes_all (stack_at l.text l.p)
