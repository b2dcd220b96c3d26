use Rattle.rule_constants.proofs.Scanning.{stride-laws, stride-room}
use borrow.Author.Rules.{rules}
use Rattle.rule_constants.proofs.stride_at.Goals as goal

pub open_form-requires : goal.open_form-requires
open_form-requires c = search (stride-room, rules)

pub returns-in-Form : goal.returns-in-Form
returns-in-Form c = search stride-laws

pub returns-in-Leaf : goal.returns-in-Leaf
returns-in-Leaf c = search stride-laws

pub returns-in-Shut : goal.returns-in-Shut
returns-in-Shut c = search stride-laws
