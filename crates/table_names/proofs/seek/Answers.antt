use native.Mathlib.Omega.{arith}
use Rattle.table_names.proofs.Names.{seek-laws, seek-start}
use Rattle.table_names.proofs.seek.Goals as goal

pub loop-n-init : goal.loop-n-init
loop-n-init c = seek-start _ _ _ _

pub returns-then-e-key : goal.returns-then-e-key
returns-then-e-key c = search seek-laws

pub returns-then-e-gt0 : goal.returns-then-e-gt0
returns-then-e-gt0 c = search seek-laws

pub loop-n-smaller : goal.loop-n-smaller
loop-n-smaller c = omega arith

pub loop-n-preserved : goal.loop-n-preserved
loop-n-preserved c = search seek-laws

pub returns : goal.returns
returns c = search seek-laws
