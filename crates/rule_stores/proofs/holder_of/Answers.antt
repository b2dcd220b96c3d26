use borrow.Author.Rules.{rules}
use Rattle.rule_stores.proofs.Ways.{seek_laws, seek-small, seek-start}
use Rattle.rule_stores.proofs.holder_of.Goals as goal

pub loop-k-init : goal.loop-k-init
loop-k-init c = seek-start _ _ _ _ (search rules)

pub returns-then-begins_at : goal.returns-then-begins_at
returns-then-begins_at c = search seek_laws

pub overflow_cast-p : goal.overflow_cast-p
overflow_cast-p c = search (seek-small, rules)

pub overflow_add-p : goal.overflow_add-p
overflow_add-p c = search (seek-small, rules)

pub loop-k-preserved : goal.loop-k-preserved
loop-k-preserved c = search seek_laws

pub returns : goal.returns
returns c = search seek_laws
