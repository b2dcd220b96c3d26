use Rattle.rule_judge_loose.proofs.Dispatch.{line-laws}
use Rattle.rule_judge_loose.proofs.lined.loose_line.Goals as goal

pub returns-then-not-words_known : goal.returns-then-not-words_known
returns-then-not-words_known c = search line-laws

pub returns-then-not-balance : goal.returns-then-not-balance
returns-then-not-balance c = search line-laws

pub returns : goal.returns
returns c = search line-laws
