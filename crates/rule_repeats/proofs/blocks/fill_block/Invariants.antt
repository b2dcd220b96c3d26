use Rattle.rule_repeats.proofs.BlockByBlock.{Filling}
use Rattle.rule_repeats.proofs.blocks.fill_block.Given as goal

abbrev pub invariant-loop-n : goal.invariant-loop-n
invariant-loop-n l = Filling l.text l.at l.lows l.highs l.n l.p
