use Prim.Native.Nat.{◌≤◌}
use lib.ListN.{length}
use native.Mathlib.Omega.{arith}
use Rattle.rule_repeats.proofs.Spelling.{key_laws, spelled-start}
use Rattle.rule_repeats.proofs.keys.key_at.Goals as goal

pub loop-p-init : goal.loop-p-init
loop-p-init c = spelled-start _ _

pub returns-in_default : goal.returns-in_default
returns-in_default c = search key_laws

pub loop-p-preserved : goal.loop-p-preserved
loop-p-preserved c = search key_laws

pub returns : goal.returns
returns c = let h : length c.args.text.now ≤ c.max.result = omega arith in search key_laws
