use Rattle.law.specs.Trees.{first}
use Rattle.law_theorems.specs.Readings.{stack_at}
use Rattle.rule_statements.specs.Chains.{many}
use Rattle.rule_restrictions.proofs.Ways.{Doing}
use Rattle.rule_restrictions.proofs.Cases.{Arming}
use Prim.Native.Nat.{◌+◌, ◌*◌}
use Rattle.rule_restrictions.proofs.walk.+walk.Given as goal

abbrev pub decreases-while_loop : goal.decreases-while_loop
decreases-while_loop l = 8 * l.depth + 1

abbrev pub decreases-stmts : goal.decreases-stmts
decreases-stmts l = 8 * l.depth + 1

abbrev pub decreases-stmt : goal.decreases-stmt
decreases-stmt l = 8 * l.depth

abbrev pub decreases-inner : goal.decreases-inner
decreases-inner l = 8 * l.depth + 7

abbrev pub decreases-if_then : goal.decreases-if_then
decreases-if_then l = 8 * l.depth + 2

abbrev pub decreases-if_else : goal.decreases-if_else
decreases-if_else l = 8 * l.depth + 3

abbrev pub decreases-headed : goal.decreases-headed
decreases-headed l = 8 * l.depth + 6

abbrev pub decreases-for_loop : goal.decreases-for_loop
decreases-for_loop l = 8 * l.depth + 1

abbrev pub decreases-else_part : goal.decreases-else_part
decreases-else_part l = 8 * l.depth + 1

abbrev pub decreases-case_of : goal.decreases-case_of
decreases-case_of l = 8 * l.depth + 5

abbrev pub decreases-case_arms : goal.decreases-case_arms
decreases-case_arms l = 8 * l.depth + 4

abbrev pub decreases-arm : goal.decreases-arm
decreases-arm l = 8 * l.depth + 2

abbrev pub decreases-all_arms : goal.decreases-all_arms
decreases-all_arms l = 8 * l.depth + 3

abbrev pub invariant-all_arms-loop-q : goal.invariant-all_arms-loop-q
invariant-all_arms-loop-q l = Arming l.text l.work l.scope l.loops l.depth l.at l.p

abbrev pub decreases-all_arms-loop-q : goal.decreases-all_arms-loop-q
decreases-all_arms-loop-q l = many (first (stack_at l.text l.p))

abbrev pub invariant-stmts-loop-p : goal.invariant-stmts-loop-p
invariant-stmts-loop-p l = Doing l.text l.work l.scope l.loops l.depth l.at l.p

abbrev pub decreases-stmts-loop-p : goal.decreases-stmts-loop-p
decreases-stmts-loop-p l = many (first (stack_at l.text l.p))
