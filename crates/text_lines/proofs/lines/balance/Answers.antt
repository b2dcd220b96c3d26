use borrow.Author.Rules.{rules}
use Rattle.text_lines.proofs.LinePasses.{balance-laws, balance-on, walk_start}
use Rattle.text_lines.proofs.lines.balance.Goals as goal

pub loop-p-init : goal.loop-p-init
loop-p-init c = walk_start _ _

pub returns-then-text-p-eq10 : goal.returns-then-text-p-eq10
returns-then-text-p-eq10 c = search balance-laws

pub loop-p-preserved : goal.loop-p-preserved
loop-p-preserved c = balance-on _ _ _ _ c.loop-p.invariant _ _ (search rules) (search rules) (search rules) c.past_byte-q.ensures

pub returns : goal.returns
returns c = search balance-laws
