use Rattle.rule_judge_loose.proofs.Dispatch.{named-laws}
use Rattle.rule_judge_loose.proofs.bodied.proc_named.Goals as goal

pub returns-then-is_form : goal.returns-then-is_form
returns-then-is_form c = search named-laws

pub returns : goal.returns
returns c = search named-laws
