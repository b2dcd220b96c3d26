use Rattle.law.specs.Trees.{first}
use Rattle.law_theorems.specs.Readings.{stack_at}
use Rattle.rule_expressions.specs.Members.{many}
use Rattle.mark_expressions.proofs.Gathering.{Sofar}
use Prim.Native.Nat.{◌+◌, ◌*◌}
use Rattle.mark_expressions.proofs.tables.Tables.+walk.Given as goal

abbrev pub decreases-two : goal.decreases-two
decreases-two l = 8 * l.depth + 2

abbrev pub decreases-short_form : goal.decreases-short_form
decreases-short_form l = 8 * l.depth + 2

abbrev pub decreases-set_form : goal.decreases-set_form
decreases-set_form l = 8 * l.depth + 3

abbrev pub decreases-place_headed : goal.decreases-place_headed
decreases-place_headed l = 8 * l.depth + 4

abbrev pub decreases-one : goal.decreases-one
decreases-one l = 8 * l.depth + 2

abbrev pub decreases-minus_parts : goal.decreases-minus_parts
decreases-minus_parts l = 8 * l.depth + 2

abbrev pub decreases-minus : goal.decreases-minus
decreases-minus l = 8 * l.depth + 3

abbrev pub decreases-member_list : goal.decreases-member_list
decreases-member_list l = 8 * l.depth + 2

abbrev pub decreases-mark_target : goal.decreases-mark_target
decreases-mark_target l = 8 * l.depth

abbrev pub decreases-mark_expr : goal.decreases-mark_expr
decreases-mark_expr l = 8 * l.depth

abbrev pub decreases-load_dot : goal.decreases-load_dot
decreases-load_dot l = 8 * l.depth + 3

abbrev pub decreases-load_at : goal.decreases-load_at
decreases-load_at l = 8 * l.depth + 3

abbrev pub decreases-inner_place : goal.decreases-inner_place
decreases-inner_place l = 8 * l.depth + 5

abbrev pub decreases-inner : goal.decreases-inner
decreases-inner l = 8 * l.depth + 5

abbrev pub decreases-headed : goal.decreases-headed
decreases-headed l = 8 * l.depth + 4

abbrev pub decreases-field : goal.decreases-field
decreases-field l = 8 * l.depth + 2

abbrev pub decreases-element : goal.decreases-element
decreases-element l = 8 * l.depth + 2

abbrev pub invariant-member_list-loop-x : goal.invariant-member_list-loop-x
invariant-member_list-loop-x l = Sofar l.self.text.now l.self.work.now l.self.types.now l.store l.self.scope l.t l.depth l.at l.next l.set

abbrev pub decreases-member_list-loop-x : goal.decreases-member_list-loop-x
decreases-member_list-loop-x l = many (first (stack_at l.self.text.now l.next))
