use lib.ListN.{length}
use mathlib.Core.Path.{◌≡◌}
use Rattle.law.specs.Trees.{first as head}
use Rattle.law_theorems.specs.Readings.{stack_at}
use Rattle.rule_statements.specs.Chains.{many, Doing}
use Rattle.rule_statements.specs.Cases.{Arming}
use Prim.Native.Nat.{◌+◌, ◌*◌}
use Rattle.rule_statements.proofs.walk.+walk.Given as goal

abbrev pub decreases-while_loop : goal.decreases-while_loop
decreases-while_loop l = 8 * l.depth + 3

abbrev pub decreases-stmt : goal.decreases-stmt
decreases-stmt l = 8 * l.depth

abbrev pub decreases-inner : goal.decreases-inner
decreases-inner l = 8 * l.depth + 7

abbrev pub decreases-if_then : goal.decreases-if_then
decreases-if_then l = 8 * l.depth + 2

abbrev pub decreases-if_else : goal.decreases-if_else
decreases-if_else l = 8 * l.depth + 3

abbrev pub decreases-headed : goal.decreases-headed
decreases-headed l = 8 * l.depth + 6

abbrev pub decreases-for_to : goal.decreases-for_to
decreases-for_to l = 8 * l.depth + 2

abbrev pub decreases-for_loop : goal.decreases-for_loop
decreases-for_loop l = 8 * l.depth + 4

abbrev pub decreases-for_from : goal.decreases-for_from
decreases-for_from l = 8 * l.depth + 3

abbrev pub decreases-for_do : goal.decreases-for_do
decreases-for_do l = 8 * l.depth + 1

abbrev pub decreases-else_part : goal.decreases-else_part
decreases-else_part l = 8 * l.depth + 1

abbrev pub decreases-else_arm : goal.decreases-else_arm
decreases-else_arm l = 8 * l.depth + 1

abbrev pub decreases-case_of : goal.decreases-case_of
decreases-case_of l = 8 * l.depth + 5

abbrev pub decreases-case_arms : goal.decreases-case_arms
decreases-case_arms l = 8 * l.depth + 4

abbrev pub decreases-begin : goal.decreases-begin
decreases-begin l = 8 * l.depth + 3

abbrev pub decreases-arm_stmt : goal.decreases-arm_stmt
decreases-arm_stmt l = 8 * l.depth + 1

abbrev pub decreases-arm : goal.decreases-arm
decreases-arm l = 8 * l.depth + 2

abbrev pub decreases-all_arms : goal.decreases-all_arms
decreases-all_arms l = 8 * l.depth + 3

abbrev pub decreases-acts : goal.decreases-acts
decreases-acts l = 8 * l.depth + 2

abbrev pub invariant-acts-loop-q : goal.invariant-acts-loop-q
invariant-acts-loop-q l = (length l.work ≡ length l.initial.work) × Doing l.walk.text.now l.initial.work l.walk.types.now l.walk.scope l.loops l.depth l.number l.first l.at l.top l.g l.p l.work

abbrev pub decreases-acts-loop-q : goal.decreases-acts-loop-q
decreases-acts-loop-q l = many (head (stack_at l.walk.text.now l.g.next))

abbrev pub invariant-all_arms-loop-q : goal.invariant-all_arms-loop-q
invariant-all_arms-loop-q l = (length l.work ≡ length l.initial.work) × Arming l.walk.text.now l.initial.work l.walk.types.now l.walk.scope l.loops l.k l.depth l.number l.first l.at l.top l.g l.p l.work

abbrev pub decreases-all_arms-loop-q : goal.decreases-all_arms-loop-q
decreases-all_arms-loop-q l = many (head (stack_at l.walk.text.now l.g.next))
