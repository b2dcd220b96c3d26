use Rattle.rule_statements.proofs.Storing.{store-laws}
use Rattle.rule_statements.proofs.simple.store_at.Goals as goal

pub returns-in-Leaf : goal.returns-in-Leaf
returns-in-Leaf c = search store-laws

pub returns-in-Form : goal.returns-in-Form
returns-in-Form c = search store-laws

pub returns-in-Shut : goal.returns-in-Shut
returns-in-Shut c = search store-laws
