use mathlib.Core.Path.{refl}
use borrow.Author.Rules.{rules}
use Rattle.rule_restrictions.proofs.Arguments.{count-laws}
use Rattle.rule_restrictions.proofs.calls.plain_parts.Goals as goal

pub loop-left-init : goal.loop-left-init
loop-left-init c = refl

pub returns-in-Some : goal.returns-in-Some
returns-in-Some c = search (count-laws, rules)

pub returns-then-left-eq0 : goal.returns-then-left-eq0
returns-then-left-eq0 c = search (count-laws, rules)

pub loop-left-preserved : goal.loop-left-preserved
loop-left-preserved c = search (count-laws, rules)

pub returns-else-plain_part : goal.returns-else-plain_part
returns-else-plain_part c = search (count-laws, rules)
