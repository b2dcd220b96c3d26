use Rattle.rule_repeats.proofs.BlockByBlock.{seek_laws}
use Rattle.rule_repeats.proofs.blocks.comes_again.Goals as goal

pub returns-then-meets : goal.returns-then-meets
returns-then-meets c = search seek_laws

pub loop-x-preserved : goal.loop-x-preserved
loop-x-preserved c = search seek_laws
