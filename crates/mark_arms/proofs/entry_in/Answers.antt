use Rattle.mark_arms.proofs.Choosing.{enter_laws}
use Rattle.mark_arms.proofs.entry_in.Goals as goal

pub returns-in-Arm : goal.returns-in-Arm
returns-in-Arm c = search enter_laws

pub returns-in-Else : goal.returns-in-Else
returns-in-Else c = search enter_laws

pub returns-in-Nothing : goal.returns-in-Nothing
returns-in-Nothing c = search enter_laws

pub returns-in_default : goal.returns-in_default
returns-in_default c = search enter_laws
