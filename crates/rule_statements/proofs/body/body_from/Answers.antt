use mathlib.Core.Path.{refl}
use borrow.Author.Rules.{rules}
use Rattle.rule_statements.proofs.Bodies.{body-falls, body-laws, body-next, body-start}
use Rattle.rule_statements.proofs.body.body_from.Goals as goal

pub loop-q-init : goal.loop-q-init
loop-q-init c = (refl, search body-start)

pub returns-in-Past : goal.returns-in-Past
returns-in-Past c = search body-laws

pub returns-in-Handler : goal.returns-in-Handler
returns-in-Handler c = search body-laws

pub returns-then-is_form : goal.returns-then-is_form
returns-then-is_form c = search body-laws

pub loop-q-smaller : goal.loop-q-smaller
loop-q-smaller c = search body-falls

pub loop-q-preserved : goal.loop-q-preserved
loop-q-preserved c = (search rules, search body-next)
