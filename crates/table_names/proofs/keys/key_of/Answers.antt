use borrow.Author.Rules.{rules}
use Rattle.table_names.proofs.Keying.{keying-laws, keying-start}
use Rattle.table_names.proofs.Spelled.{letter-falls, letter-room}
use Rattle.table_names.proofs.keys.key_of.Goals as goal

pub loop-offset-init : goal.loop-offset-init
loop-offset-init c = keying-start _ _

pub returns-then-x-eq0 : goal.returns-then-x-eq0
returns-then-x-eq0 c = search keying-laws

pub overflow_add-p : goal.overflow_add-p
overflow_add-p c = search (letter-room, rules)

pub loop-offset-smaller : goal.loop-offset-smaller
loop-offset-smaller c = search letter-falls

pub loop-offset-preserved : goal.loop-offset-preserved
loop-offset-preserved c = search keying-laws
