use Rattle.rule_type_lines.proofs.ArrayTypes.{array_laws}
use Rattle.rule_type_lines.proofs.simple.array_of.Goals as goal

pub returns-then-is_form : goal.returns-then-is_form
returns-then-is_form c = search array_laws
