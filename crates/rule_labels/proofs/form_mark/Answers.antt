use Rattle.rule_labels.proofs.Telling.{minus_laws}
use Rattle.rule_labels.proofs.form_mark.Goals as goal

pub returns-then-is_form : goal.returns-then-is_form
returns-then-is_form c = search minus_laws

pub returns : goal.returns
returns c = search minus_laws
