use mathlib.Core.Path.{refl}
use borrow.Author.Rules.{rules}
use Rattle.rule_statements.proofs.Arguments.{arguments-falls, arguments-laws, arguments-next, arguments-start}
use Rattle.rule_statements.proofs.simple.arguments.Goals as goal

pub loop-q-init : goal.loop-q-init
loop-q-init c = (refl, search arguments-start)

pub returns-in-Some : goal.returns-in-Some
returns-in-Some c = search arguments-laws

pub returns-then-is_form : goal.returns-then-is_form
returns-then-is_form c = search arguments-laws

pub loop-q-smaller : goal.loop-q-smaller
loop-q-smaller c = search arguments-falls

pub loop-q-preserved : goal.loop-q-preserved
loop-q-preserved c = (search rules, search arguments-next)
