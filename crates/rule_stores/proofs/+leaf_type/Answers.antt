use Rattle.rule_stores.proofs.Ways.{leaf_laws}
use Rattle.rule_stores.proofs.+leaf_type.Goals as goal

pub returns-then-depth-eq0 : goal.returns-then-depth-eq0
returns-then-depth-eq0 t c = search leaf_laws

pub returns-then-x-lt2 : goal.returns-then-x-lt2
returns-then-x-lt2 t c = search leaf_laws

pub returns : goal.returns
returns t c = search leaf_laws
