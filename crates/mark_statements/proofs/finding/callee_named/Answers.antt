use Rattle.mark_statements.proofs.Seeking.{callee-laws}
use Rattle.mark_statements.proofs.finding.callee_named.Goals as goal

pub returns-in-Leaf : goal.returns-in-Leaf
returns-in-Leaf c = search callee-laws

pub returns-in-Form : goal.returns-in-Form
returns-in-Form c = search callee-laws

pub returns-in-Shut : goal.returns-in-Shut
returns-in-Shut c = search callee-laws
