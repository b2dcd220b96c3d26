use Rattle.mark_steps.proofs.Noting.{raise_laws}
use borrow.Author.Rules.{rules}
use Rattle.mark_steps.proofs.ends.raise_number.Goals as goal

pub returns-then-z-ne0 : goal.returns-then-z-ne0
returns-then-z-ne0 c = search (raise_laws, rules)

pub returns-then-store-eq0 : goal.returns-then-store-eq0
returns-then-store-eq0 c = search (raise_laws, rules)

pub returns-else-store-eq0 : goal.returns-else-store-eq0
returns-else-store-eq0 c = search (raise_laws, rules)
