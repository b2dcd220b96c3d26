use mathlib.Core.Path.{refl}
use borrow.Author.Rules.{rules}
use Rattle.rule_statements.proofs.Labelling.{labels-falls, labels-laws, labels_next, labels-start}
use Rattle.rule_statements.proofs.arm_labels.labels.Goals as goal

pub loop-scope-init : goal.loop-scope-init
loop-scope-init c = (refl, search labels-start)

pub returns-then-is_form : goal.returns-then-is_form
returns-then-is_form c = search labels-laws

pub returns-in-Some : goal.returns-in-Some
returns-in-Some c = search labels-laws

pub loop-scope-smaller : goal.loop-scope-smaller
loop-scope-smaller c = search labels-falls

pub loop-scope-preserved : goal.loop-scope-preserved
loop-scope-preserved c = (search rules, search labels_next)
