use Rattle.rule_pairs.proofs.PairParts.{parts_laws}
use Rattle.rule_pairs.proofs.pair_parts.Goals as goal

pub returns-in-Some : goal.returns-in-Some
returns-in-Some c = search parts_laws

pub returns-in-None : goal.returns-in-None
returns-in-None c = search parts_laws
