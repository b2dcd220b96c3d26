use borrow.Author.Rules.{sfits_of}
use Rattle.rule_labels.proofs.Finding.{hold-on}
use Rattle.rule_labels.proofs.holds.Goals as goal

pub loop-y-preserved : goal.loop-y-preserved
loop-y-preserved c = hold-on _ _ _ _ c.ranges.z c.loop-y.invariant c.loop-y-test.true (search sfits_of)
