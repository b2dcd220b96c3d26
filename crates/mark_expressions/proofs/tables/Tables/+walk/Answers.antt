use Rattle.mark_expressions.proofs.Forming.{element-is, field_laws, load-at-is, load-dot-is, minus-laws, minus-parts-laws, one-is, set-laws, short-is, two_is}
use Rattle.mark_expressions.proofs.Gathering.{members-again, members-falls, members-laws, sofar-start}
use Rattle.mark_expressions.proofs.Heading.{by-laws, by-place-laws, expr-laws, inner_laws, inner-place-laws, inner-place-rest, inner-rest, place-rest, target-laws}
use Rattle.mark_expressions.proofs.tables.Tables.+walk.Goals as goal

pub element-returns : goal.element-returns
element-returns t c = search element-is

pub field-returns-in-Some : goal.field-returns-in-Some
field-returns-in-Some t c = search field_laws

pub field-returns-in-None : goal.field-returns-in-None
field-returns-in-None t c = search field_laws

pub headed-returns-in-At : goal.headed-returns-in-At
headed-returns-in-At t c = search by-laws

pub headed-returns-in-Dot : goal.headed-returns-in-Dot
headed-returns-in-Dot t c = search by-laws

pub headed-returns-in-Members : goal.headed-returns-in-Members
headed-returns-in-Members t c = search by-laws

pub headed-returns-in-Minus : goal.headed-returns-in-Minus
headed-returns-in-Minus t c = search by-laws

pub headed-returns-in-Bound : goal.headed-returns-in-Bound
headed-returns-in-Bound t c = search by-laws

pub headed-returns-in-Short : goal.headed-returns-in-Short
headed-returns-in-Short t c = search by-laws

pub headed-returns-in-Two : goal.headed-returns-in-Two
headed-returns-in-Two t c = search by-laws

pub headed-returns-in-One : goal.headed-returns-in-One
headed-returns-in-One t c = search by-laws

pub headed-returns-in-Nothing : goal.headed-returns-in-Nothing
headed-returns-in-Nothing t c = search by-laws

pub inner-returns-in-Leaf : goal.inner-returns-in-Leaf
inner-returns-in-Leaf t c = search inner_laws

pub inner_place-returns-in-Leaf : goal.inner_place-returns-in-Leaf
inner_place-returns-in-Leaf t c = search inner-place-laws

pub load_at-returns : goal.load_at-returns
load_at-returns t c = search load-at-is

pub load_dot-returns : goal.load_dot-returns
load_dot-returns t c = search load-dot-is

pub mark_expr-returns-then-depth-eq0 : goal.mark_expr-returns-then-depth-eq0
mark_expr-returns-then-depth-eq0 t c = search expr-laws

pub mark_expr-returns-in-Leaf : goal.mark_expr-returns-in-Leaf
mark_expr-returns-in-Leaf t c = search expr-laws

pub mark_expr-returns-in-Form : goal.mark_expr-returns-in-Form
mark_expr-returns-in-Form t c = search expr-laws

pub mark_expr-returns-in-Shut : goal.mark_expr-returns-in-Shut
mark_expr-returns-in-Shut t c = search expr-laws

pub mark_target-returns-then-depth-eq0 : goal.mark_target-returns-then-depth-eq0
mark_target-returns-then-depth-eq0 t c = search target-laws

pub mark_target-returns-in-Leaf : goal.mark_target-returns-in-Leaf
mark_target-returns-in-Leaf t c = search target-laws

pub mark_target-returns-in-Form : goal.mark_target-returns-in-Form
mark_target-returns-in-Form t c = search target-laws

pub mark_target-returns-in-Shut : goal.mark_target-returns-in-Shut
mark_target-returns-in-Shut t c = search target-laws

pub member_list-loop-x-init : goal.member_list-loop-x-init
member_list-loop-x-init t c = sofar-start _ _ _ _ _ _ _ _

pub member_list-returns-in-Some : goal.member_list-returns-in-Some
member_list-returns-in-Some t c = search members-laws

pub member_list-returns-then-z-gt-GREATEST : goal.member_list-returns-then-z-gt-GREATEST
member_list-returns-then-z-gt-GREATEST t c = search members-laws

pub member_list-loop-x-smaller : goal.member_list-loop-x-smaller
member_list-loop-x-smaller t c = search members-falls

pub member_list-loop-x-preserved : goal.member_list-loop-x-preserved
member_list-loop-x-preserved t c = search members-again

pub minus-returns-in-Some : goal.minus-returns-in-Some
minus-returns-in-Some t c = search minus-laws

pub minus-returns-in-None : goal.minus-returns-in-None
minus-returns-in-None t c = search minus-laws

pub minus_parts-returns-in-Some : goal.minus_parts-returns-in-Some
minus_parts-returns-in-Some t c = search minus-parts-laws

pub minus_parts-returns-in-None : goal.minus_parts-returns-in-None
minus_parts-returns-in-None t c = search minus-parts-laws

pub one-returns : goal.one-returns
one-returns t c = search one-is

pub place_headed-returns-in-At : goal.place_headed-returns-in-At
place_headed-returns-in-At t c = search by-place-laws

pub place_headed-returns-in-Dot : goal.place_headed-returns-in-Dot
place_headed-returns-in-Dot t c = search by-place-laws

pub set_form-returns-then-is_set : goal.set_form-returns-then-is_set
set_form-returns-then-is_set t c = search set-laws

pub set_form-returns-else-is_set : goal.set_form-returns-else-is_set
set_form-returns-else-is_set t c = search set-laws

pub short_form-returns : goal.short_form-returns
short_form-returns t c = search short-is

pub two-returns : goal.two-returns
two-returns t c = search two_is

pub inner-returns-in_default : goal.inner-returns-in_default
inner-returns-in_default t c = inner-rest _ _ _ _ _ _ _ _ c.part_at.ensures _ c.in_default.not-Leaf

pub inner_place-returns-in_default : goal.inner_place-returns-in_default
inner_place-returns-in_default t c = inner-place-rest _ _ _ _ _ _ _ _ c.part_at.ensures _ c.in_default.not-Leaf

pub place_headed-returns-in_default : goal.place_headed-returns-in_default
place_headed-returns-in_default t c = place-rest _ _ _ _ _ _ _ _ _ c.in_default.not-At c.in_default.not-Dot
