use borrow.Author.Rules.{sfits_of}
use Rattle.rule_type_lines.proofs.RangeTypes.{last_laws}
use Rattle.rule_type_lines.proofs.ranges.last_constant.Goals as goal

pub returns-then-is_form : goal.returns-then-is_form
returns-then-is_form c = search (last_laws, sfits_of)

pub returns-in-Some : goal.returns-in-Some
returns-in-Some c = search (last_laws, sfits_of)

pub returns-in-None : goal.returns-in-None
returns-in-None c = search (last_laws, sfits_of)
