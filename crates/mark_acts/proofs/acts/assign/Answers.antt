use Rattle.mark_acts.proofs.Acting.{assign_laws}
use Rattle.mark_acts.proofs.acts.assign.Goals as goal

pub returns-then-v-gt-GREATEST : goal.returns-then-v-gt-GREATEST
returns-then-v-gt-GREATEST c = search assign_laws

pub returns-then-a-gt-GREATEST : goal.returns-then-a-gt-GREATEST
returns-then-a-gt-GREATEST c = search assign_laws

pub returns : goal.returns
returns c = search assign_laws
