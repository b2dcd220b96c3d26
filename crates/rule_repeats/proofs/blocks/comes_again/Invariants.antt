use lib.ListN.{length}
use Rattle.rule_repeats.specs.Leads.{leads_at}
use Rattle.rule_repeats.proofs.BlockByBlock.{Seeking}
use Rattle.rule_repeats.proofs.blocks.comes_again.Given as goal

abbrev pub invariant-loop-x : goal.invariant-loop-x
invariant-loop-x l = Seeking l.text l.lows l.highs l.from l.n l.at l.p

abbrev pub decreases-loop-x : goal.decreases-loop-x
decreases-loop-x l = length (leads_at l.text l.p)
