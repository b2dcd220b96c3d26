use borrow.Author.Rules.{rules}
use Rattle.rule_constants.proofs.Scanning.{scan-falls, scan-few, scan-laws, scan-start}
use Rattle.rule_constants.proofs.plain_parts.Goals as goal

pub loop-q-init : goal.loop-q-init
loop-q-init c = scan-start _ _

pub stride_at-s-requires : goal.stride_at-s-requires
stride_at-s-requires c = search (scan-few, rules)

pub loop-q-smaller : goal.loop-q-smaller
loop-q-smaller c = search scan-falls

pub loop-q-preserved : goal.loop-q-preserved
loop-q-preserved c = search scan-laws

pub returns-in-Out : goal.returns-in-Out
returns-in-Out c = search scan-laws

pub returns-in-Bad : goal.returns-in-Bad
returns-in-Bad c = search scan-laws
