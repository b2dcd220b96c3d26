use mathlib.Core.Path.{refl}
use Prim.Native.Nat.{◌≤◌}
use lib.ListN.{length}
use native.Mathlib.Omega.{arith}
use Rattle.text_words.proofs.Looking.{look-laws}
use Rattle.text_words.proofs.sight.look.Goals as goal

pub loop-p-init : goal.loop-p-init
loop-p-init c = refl

pub loop-p-preserved : goal.loop-p-preserved
loop-p-preserved c = search look-laws

pub returns-in-Open : goal.returns-in-Open
returns-in-Open c = search look-laws

pub returns-in-Close : goal.returns-in-Close
returns-in-Close c = search look-laws

pub returns-in-Visible : goal.returns-in-Visible
returns-in-Visible c = search look-laws

pub returns-in-Feed : goal.returns-in-Feed
returns-in-Feed c = search look-laws

pub returns-in-Refused : goal.returns-in-Refused
returns-in-Refused c = search look-laws

pub returns : goal.returns
returns c = let h : length c.args.text.now ≤ c.max.result = omega arith in search look-laws
