use borrow.Author.Rules.{sfits_of}
use Rattle.host_replies.proofs.Numbers.{mark-answer-laws}
use Rattle.host_replies.proofs.answered.Goals as goal

pub returns-in-Normal : goal.returns-in-Normal
returns-in-Normal c = search mark-answer-laws

pub returns-in-Raised : goal.returns-in-Raised
returns-in-Raised c = search (mark-answer-laws, sfits_of)

pub returns-in-Spent : goal.returns-in-Spent
returns-in-Spent c = search mark-answer-laws

pub returns-in-Stuck : goal.returns-in-Stuck
returns-in-Stuck c = search mark-answer-laws
