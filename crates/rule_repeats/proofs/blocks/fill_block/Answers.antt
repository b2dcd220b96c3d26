use borrow.Author.Rules.{rules}
use Rattle.rule_repeats.proofs.BlockByBlock.{fill_laws}
use Rattle.rule_repeats.proofs.blocks.fill_block.Goals as goal

pub loop-n-init : goal.loop-n-init
loop-n-init c = search (fill_laws, rules)

pub returns-then-meets : goal.returns-then-meets
returns-then-meets c = search fill_laws

pub loop-n-preserved : goal.loop-n-preserved
loop-n-preserved c = search fill_laws
