use Rattle.rule_pairs.proofs.PairParts.{pairs-end-laws}
use Rattle.rule_pairs.proofs.pairs_end.Goals as goal

pub returns-in-Some : goal.returns-in-Some
returns-in-Some c = search pairs-end-laws

pub returns-in-None : goal.returns-in-None
returns-in-None c = search pairs-end-laws
