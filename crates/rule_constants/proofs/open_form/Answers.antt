use Rattle.rule_constants.proofs.Scanning.{open-laws}
use Rattle.rule_constants.proofs.open_form.Goals as goal

pub returns-then-past_integers : goal.returns-then-past_integers
returns-then-past_integers c = search open-laws

pub returns : goal.returns
returns c = search open-laws
