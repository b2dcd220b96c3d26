use Rattle.rule_type_forms.proofs.TypeShapes.{type_line_laws}
use Rattle.rule_type_forms.proofs.type_line.Goals as goal

pub returns-in-None : goal.returns-in-None
returns-in-None c = search type_line_laws
