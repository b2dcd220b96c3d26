use Rattle.rule_judge.proofs.Opening.{known-laws}
use Rattle.rule_judge.proofs.whole.known_line.Goals as goal

pub returns-then-kn : goal.returns-then-kn
returns-then-kn c = search known-laws

pub returns-in-Form : goal.returns-in-Form
returns-in-Form c = search known-laws

pub returns-in-Leaf : goal.returns-in-Leaf
returns-in-Leaf c = search known-laws

pub returns-in-Shut : goal.returns-in-Shut
returns-in-Shut c = search known-laws
