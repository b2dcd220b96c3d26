use lib.ListN.{length}
use Rattle.rule_repeats.specs.Leads.{leads_at}
use Rattle.rule_repeats.proofs.BlockByBlock.{Clearing}
use Rattle.rule_repeats.proofs.blocks.differ_from.Given as goal

abbrev pub invariant-loop-n : goal.invariant-loop-n
invariant-loop-n l = Clearing l.text l.at l.lows l.highs l.p

abbrev pub decreases-loop-n : goal.decreases-loop-n
decreases-loop-n l = length (leads_at l.text l.p)
