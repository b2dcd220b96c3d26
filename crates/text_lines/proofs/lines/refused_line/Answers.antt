use borrow.Author.Rules.{rules}
use Rattle.text_lines.proofs.LinePasses.{seek-few, seek-laws, seek-start}
use Rattle.text_lines.proofs.lines.refused_line.Goals as goal

pub loop-p-init : goal.loop-p-init
loop-p-init c = seek-start _

pub overflow_add-result : goal.overflow_add-result
overflow_add-result c = search (seek-few, rules)

pub returns-then-is_refused : goal.returns-then-is_refused
returns-then-is_refused c = search seek-laws

pub feeds_after-n-requires : goal.feeds_after-n-requires
feeds_after-n-requires c = search (seek-few, rules)

pub loop-p-preserved : goal.loop-p-preserved
loop-p-preserved c = search seek-laws

pub returns : goal.returns
returns c = search seek-laws
