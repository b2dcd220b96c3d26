use Rattle.rule_repeats.proofs.Meeting.{list_laws}
use Rattle.rule_repeats.proofs.blocks.listed.Goals as goal

pub returns-in_default : goal.returns-in_default
returns-in_default c = search list_laws

pub returns-then-same_word : goal.returns-then-same_word
returns-then-same_word c = search list_laws

pub returns : goal.returns
returns c = search list_laws

pub loop-k-preserved : goal.loop-k-preserved
loop-k-preserved c = search list_laws
