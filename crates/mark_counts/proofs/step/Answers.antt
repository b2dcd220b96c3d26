use mir.Syntax.{w64}
use mir.Val.{Fits}
use native.Mathlib.Omega.{arith}
use lib.ListN.{length}
use Rattle.mark_counts.proofs.Counting.{step-laws, step_room}
use Prim.Native.Nat.{◌≤◌, ◌+◌}
use borrow.Author.Rules.{rules}
use Rattle.mark_counts.proofs.step.Goals as goal

pub overflow_add-result-in-Form : goal.overflow_add-result-in-Form
overflow_add-result-in-Form c = let r : c.args.n + c.head_at.result ≤ length c.args.text.now = search step_room in let l : Fits w64 (length c.args.text.now) = search rules in omega arith

pub returns-in-Leaf : goal.returns-in-Leaf
returns-in-Leaf c = search step-laws

pub returns-in-Form : goal.returns-in-Form
returns-in-Form c = search step-laws

pub returns-in-Shut : goal.returns-in-Shut
returns-in-Shut c = search step-laws
