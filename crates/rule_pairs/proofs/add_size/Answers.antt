use Rattle.rule_pairs.proofs.PairParts.{size-laws}
use Rattle.rule_pairs.proofs.add_size.Goals as goal

pub returns-then-b-le-MOST_CELLS : goal.returns-then-b-le-MOST_CELLS
returns-then-b-le-MOST_CELLS c = search size-laws

pub returns-then-a-le-MOST_CELLS : goal.returns-then-a-le-MOST_CELLS
returns-then-a-le-MOST_CELLS c = search size-laws

pub returns : goal.returns
returns c = search size-laws
