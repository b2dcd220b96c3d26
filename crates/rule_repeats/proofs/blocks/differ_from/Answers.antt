use Rattle.rule_repeats.proofs.BlockByBlock.{clear_laws}
use Rattle.rule_repeats.proofs.blocks.differ_from.Goals as goal

pub loop-n-preserved : goal.loop-n-preserved
loop-n-preserved c = search clear_laws
