use mathlib.Core.Path.{refl}
use Prim.Native.Nat.{◌≤◌}
use lib.ListN.{length}
use native.Mathlib.Omega.{arith}
use Rattle.text_lines.proofs.LinePasses.{next-laws}
use Rattle.text_lines.proofs.lines.next_line.Goals as goal

pub loop-p-init : goal.loop-p-init
loop-p-init c = (refl, omega arith)

pub returns-then-text-p-eq10 : goal.returns-then-text-p-eq10
returns-then-text-p-eq10 c = (search next-laws, omega arith)

pub loop-p-preserved : goal.loop-p-preserved
loop-p-preserved c = (search next-laws, omega arith)

pub returns : goal.returns
returns c = let h : length c.args.text.now ≤ c.max.result = omega arith in (search next-laws, omega arith)
