use borrow.Author.Rules.{rules}
use Rattle.rule_texts.proofs.Driving.{drive-laws, going-room, going_start, next-less}
use Rattle.rule_texts.proofs.check_lines.Goals as goal

pub loop-p-init : goal.loop-p-init
loop-p-init c = going_start _ _ _ _

pub returns-in-Err : goal.returns-in-Err
returns-in-Err c = search drive-laws

pub overflow_add-n : goal.overflow_add-n
overflow_add-n c = search (going-room, rules)

pub loop-p-smaller : goal.loop-p-smaller
loop-p-smaller c = search next-less

pub loop-p-preserved : goal.loop-p-preserved
loop-p-preserved c = search drive-laws

pub returns : goal.returns
returns c = search drive-laws
