use Rattle.rule_judge_loose.proofs.Dispatch.{enter-laws}
use Rattle.rule_judge_loose.proofs.lined.loose_enter.Goals as goal

pub returns-in-Type : goal.returns-in-Type
returns-in-Type c = search enter-laws

pub returns-in-Var : goal.returns-in-Var
returns-in-Var c = search enter-laws

pub returns-in-Proc : goal.returns-in-Proc
returns-in-Proc c = search enter-laws

pub returns-in-Main : goal.returns-in-Main
returns-in-Main c = search enter-laws

pub returns-in-Nothing : goal.returns-in-Nothing
returns-in-Nothing c = search enter-laws
