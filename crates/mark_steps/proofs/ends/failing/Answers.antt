use Rattle.mark_steps.proofs.Noting.{failing_laws}
use Rattle.mark_steps.proofs.ends.failing.Goals as goal

pub overflow_sub-w : goal.overflow_sub-w
overflow_sub-w c = search failing_laws

pub returns-then-w-gt-GREATEST : goal.returns-then-w-gt-GREATEST
returns-then-w-gt-GREATEST c = search failing_laws

pub returns-else-w-gt-GREATEST : goal.returns-else-w-gt-GREATEST
returns-else-w-gt-GREATEST c = search failing_laws
