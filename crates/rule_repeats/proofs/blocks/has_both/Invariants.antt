use Rattle.rule_repeats.proofs.Meeting.{HavingBoth}
use Rattle.rule_repeats.proofs.blocks.has_both.Given as goal

abbrev pub invariant-loop-i : goal.invariant-loop-i
invariant-loop-i l = HavingBoth l.a l.b l.lows l.highs l.any l.i
