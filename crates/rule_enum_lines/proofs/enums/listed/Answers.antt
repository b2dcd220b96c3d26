use Rattle.rule_enum_lines.proofs.EnumNames.{names-fewer, scan_laws, scan-start}
use Rattle.rule_enum_lines.proofs.enums.listed.Goals as goal

pub loop-name-init : goal.loop-name-init
loop-name-init c = scan-start _ _ _

pub returns-then-same_word : goal.returns-then-same_word
returns-then-same_word c = search scan_laws

pub loop-name-smaller : goal.loop-name-smaller
loop-name-smaller c = search names-fewer

pub loop-name-preserved : goal.loop-name-preserved
loop-name-preserved c = search scan_laws

pub returns : goal.returns
returns c = search scan_laws
