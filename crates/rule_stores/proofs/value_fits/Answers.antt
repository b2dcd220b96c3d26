use borrow.Author.Rules.{sfits_of}
use Rattle.rule_stores.proofs.Ways.{value_laws}
use Rattle.rule_stores.proofs.value_fits.Goals as goal

pub returns-then-x-eq0 : goal.returns-then-x-eq0
returns-then-x-eq0 c = search (value_laws, sfits_of)

pub returns-else-x-eq0 : goal.returns-else-x-eq0
returns-else-x-eq0 c = search (value_laws, sfits_of)
