use Rattle.text_words.proofs.Looking.{end-laws, going_start}
use Rattle.text_words.proofs.sight.word_end.Goals as goal

pub loop-p-init : goal.loop-p-init
loop-p-init c = going_start _ _

pub loop-p-preserved : goal.loop-p-preserved
loop-p-preserved c = search end-laws

pub returns-in_default : goal.returns-in_default
returns-in_default c = search end-laws

pub returns : goal.returns
returns c = search end-laws
