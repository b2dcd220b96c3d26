use borrow.Author.Rules.{rules}
use Rattle.text_skips.proofs.Skipping.{inside-falls, inside-few, inside-laws, inside-start}
use Rattle.text_skips.proofs.past_form.Goals as goal

pub loop-q-init : goal.loop-q-init
loop-q-init c = inside-start _ _

pub step-requires : goal.step-requires
step-requires c = search (inside-few, rules)

pub loop-q-smaller : goal.loop-q-smaller
loop-q-smaller c = search inside-falls

pub loop-q-preserved : goal.loop-q-preserved
loop-q-preserved c = search inside-laws

pub returns-in-Out : goal.returns-in-Out
returns-in-Out c = search inside-laws
