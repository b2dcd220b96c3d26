use Rattle.text_words.proofs.WordPasses.{hop-falls, know-start, known-laws}
use Rattle.text_words.proofs.lines.words_known.Goals as goal

pub loop-h-init : goal.loop-h-init
loop-h-init c = know-start _ _

pub returns-then-stops : goal.returns-then-stops
returns-then-stops c = search known-laws

pub loop-h-smaller : goal.loop-h-smaller
loop-h-smaller c = search hop-falls

pub loop-h-preserved : goal.loop-h-preserved
loop-h-preserved c = search known-laws

pub returns-then-not-fine : goal.returns-then-not-fine
returns-then-not-fine c = search known-laws
