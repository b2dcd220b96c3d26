use Rattle.law.specs.Trees.{first}
use Rattle.law_theorems.specs.Readings.{stack_at}
use Rattle.rule_expressions.specs.Members.{many}
use Rattle.rule_expressions.proofs.Membership.{Sofar}
use lib.ListN.{length}
use mathlib.Core.Path.{◌≡◌}
use Prim.Native.Nat.{◌+◌, ◌*◌}
use Rattle.rule_expressions.proofs.walk.Walk.+walk.Given as goal

abbrev pub decreases-two : goal.decreases-two
decreases-two l = 8 * l.depth + 2

abbrev pub decreases-target : goal.decreases-target
decreases-target l = 8 * l.depth

abbrev pub decreases-set_form : goal.decreases-set_form
decreases-set_form l = 8 * l.depth + 3

abbrev pub decreases-second : goal.decreases-second
decreases-second l = 8 * l.depth + 1

abbrev pub decreases-place_headed : goal.decreases-place_headed
decreases-place_headed l = 8 * l.depth + 4

abbrev pub decreases-place : goal.decreases-place
decreases-place l = 8 * l.depth + 5

abbrev pub decreases-one : goal.decreases-one
decreases-one l = 8 * l.depth + 2

abbrev pub decreases-minus_parts : goal.decreases-minus_parts
decreases-minus_parts l = 8 * l.depth + 2

abbrev pub decreases-minus : goal.decreases-minus
decreases-minus l = 8 * l.depth + 3

abbrev pub decreases-member_list : goal.decreases-member_list
decreases-member_list l = 8 * l.depth + 2

abbrev pub decreases-load_dot : goal.decreases-load_dot
decreases-load_dot l = 8 * l.depth + 3

abbrev pub decreases-load_at : goal.decreases-load_at
decreases-load_at l = 8 * l.depth + 3

abbrev pub decreases-inner : goal.decreases-inner
decreases-inner l = 8 * l.depth + 5

abbrev pub decreases-headed : goal.decreases-headed
decreases-headed l = 8 * l.depth + 4

abbrev pub decreases-field : goal.decreases-field
decreases-field l = 8 * l.depth + 2

abbrev pub decreases-expr : goal.decreases-expr
decreases-expr l = 8 * l.depth

abbrev pub decreases-element : goal.decreases-element
decreases-element l = 8 * l.depth + 2

abbrev pub invariant-member_list-loop-q : goal.invariant-member_list-loop-q
invariant-member_list-loop-q l = (length l.work ≡ length l.initial.work) × Sofar l.self.text.now l.initial.work l.self.types.now l.self.scope l.base l.depth l.at l.chain l.top l.fault l.next l.link l.free l.work

abbrev pub decreases-member_list-loop-q : goal.decreases-member_list-loop-q
decreases-member_list-loop-q l = many (first (stack_at l.self.text.now l.next))
