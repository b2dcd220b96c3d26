use Rattle.rule_texts.proofs.Texts.{check-laws}
use Rattle.rule_texts.proofs.check.Goals as goal

pub returns-then-work-lt-WORK_LENGTH : goal.returns-then-work-lt-WORK_LENGTH
returns-then-work-lt-WORK_LENGTH c = search check-laws

pub returns-then-text-gt-TEXT_LENGTH : goal.returns-then-text-gt-TEXT_LENGTH
returns-then-text-gt-TEXT_LENGTH c = search check-laws

pub returns-in-Some : goal.returns-in-Some
returns-in-Some c = search check-laws

pub returns-in-None : goal.returns-in-None
returns-in-None c = search check-laws
