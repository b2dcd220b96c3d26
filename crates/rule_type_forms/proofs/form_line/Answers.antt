use Rattle.rule_type_forms.proofs.TypeShapes.{form_laws}
use Rattle.rule_type_forms.proofs.form_line.Goals as goal

pub returns-in-Leaf : goal.returns-in-Leaf
returns-in-Leaf c = search form_laws
