use Rattle.rule_pairs.proofs.PairParts.{type-size-is}
use Rattle.rule_pairs.proofs.add_type_size.Goals as goal

pub returns : goal.returns
returns c = search type-size-is
