use Rattle.rule_repeats.proofs.Spelling.{Spelled}
use Rattle.rule_repeats.proofs.keys.key_at.Given as goal

abbrev pub invariant-loop-p : goal.invariant-loop-p
invariant-loop-p l = Spelled l.text l.at l.p l.low l.high
