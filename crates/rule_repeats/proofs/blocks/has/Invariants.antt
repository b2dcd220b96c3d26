use Rattle.rule_repeats.proofs.Meeting.{Having}
use Rattle.rule_repeats.proofs.blocks.has.Given as goal

abbrev pub invariant-loop-i : goal.invariant-loop-i
invariant-loop-i l = Having l.a l.keys l.any l.i
