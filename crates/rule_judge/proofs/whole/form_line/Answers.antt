use Rattle.rule_judge.proofs.Dispatch.{form-laws}
use Rattle.rule_judge.proofs.whole.form_line.Goals as goal

pub returns-in-Leaf : goal.returns-in-Leaf
returns-in-Leaf c = search form-laws

pub returns-in-Form : goal.returns-in-Form
returns-in-Form c = search form-laws

pub returns-in-Shut : goal.returns-in-Shut
returns-in-Shut c = search form-laws
