use Rattle.rule_labels.proofs.Finding.{fault_laws}
use Rattle.rule_labels.proofs.repeat_fault.Goals as goal

pub returns-else-differ_by : goal.returns-else-differ_by
returns-else-differ_by c = search fault_laws
