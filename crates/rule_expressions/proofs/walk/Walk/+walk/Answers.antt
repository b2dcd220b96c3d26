use borrow.Author.Rules.{sfits_of}
use mathlib.Core.Path.{refl}
use borrow.Author.Rules.{rules}
use Rattle.rule_expressions.proofs.Dispatch.{by-laws, by-place-laws, expr-laws, inner_laws, place-laws, target-laws}
use Rattle.rule_expressions.proofs.Membership.{members-again, members-falls, members-laws, set-form-laws, sofar-start}
use Rattle.rule_expressions.proofs.Minus.{minus-laws, minus-parts-laws}
use Rattle.rule_expressions.proofs.Operators.{one_laws, second_is, two-laws}
use Rattle.rule_expressions.proofs.Targets.{at-laws, dot-laws, loads-at, loads-dot}
use Rattle.rule_expressions.proofs.walk.Walk.+walk.Goals as goal

pub element-returns-then-is_form : goal.element-returns-then-is_form
element-returns-then-is_form t c = search at-laws

pub element-returns : goal.element-returns
element-returns t c = search at-laws

pub expr-returns-then-depth-eq0 : goal.expr-returns-then-depth-eq0
expr-returns-then-depth-eq0 t c = search expr-laws

pub expr-returns-in-Leaf : goal.expr-returns-in-Leaf
expr-returns-in-Leaf t c = search expr-laws

pub expr-returns-in-Form : goal.expr-returns-in-Form
expr-returns-in-Form t c = search expr-laws

pub expr-returns-in-Shut : goal.expr-returns-in-Shut
expr-returns-in-Shut t c = search expr-laws

pub field-returns-then-is_form : goal.field-returns-then-is_form
field-returns-then-is_form t c = search dot-laws

pub field-returns-in-Some : goal.field-returns-in-Some
field-returns-in-Some t c = search dot-laws

pub field-returns-in-None : goal.field-returns-in-None
field-returns-in-None t c = search dot-laws

pub headed-returns-in-At : goal.headed-returns-in-At
headed-returns-in-At t c = search by-laws

pub headed-returns-in-Dot : goal.headed-returns-in-Dot
headed-returns-in-Dot t c = search by-laws

pub headed-returns-in-Members : goal.headed-returns-in-Members
headed-returns-in-Members t c = search by-laws

pub headed-returns-in-Minus : goal.headed-returns-in-Minus
headed-returns-in-Minus t c = search by-laws

pub headed-returns-in-Bound : goal.headed-returns-in-Bound
headed-returns-in-Bound t c = search by-laws

pub headed-returns-in-Short : goal.headed-returns-in-Short
headed-returns-in-Short t c = search by-laws

pub headed-returns-in-One : goal.headed-returns-in-One
headed-returns-in-One t c = search by-laws

pub inner-returns-in-Leaf : goal.inner-returns-in-Leaf
inner-returns-in-Leaf t c = search inner_laws

pub inner-returns-in-Form : goal.inner-returns-in-Form
inner-returns-in-Form t c = search inner_laws

pub inner-returns-in-Shut : goal.inner-returns-in-Shut
inner-returns-in-Shut t c = search inner_laws

pub load_at-returns : goal.load_at-returns
load_at-returns t c = search loads-at

pub load_dot-returns : goal.load_dot-returns
load_dot-returns t c = search loads-dot

pub member_list-loop-q-init : goal.member_list-loop-q-init
member_list-loop-q-init t c = (refl, sofar-start _ _ _ _ _ _ _ _ _)

pub member_list-returns-in-Some : goal.member_list-returns-in-Some
member_list-returns-in-Some t c = search members-laws

pub member_list-returns-then-is_form : goal.member_list-returns-then-is_form
member_list-returns-then-is_form t c = search members-laws

pub member_list-loop-q-smaller : goal.member_list-loop-q-smaller
member_list-loop-q-smaller t c = search members-falls

pub member_list-loop-q-preserved : goal.member_list-loop-q-preserved
member_list-loop-q-preserved t c = (search rules, search members-again)

pub minus-returns-in-Some : goal.minus-returns-in-Some
minus-returns-in-Some t c = search (minus-laws, sfits_of)

pub minus-returns-in-None : goal.minus-returns-in-None
minus-returns-in-None t c = search (minus-laws, sfits_of)

pub minus_parts-returns-then-is_form : goal.minus_parts-returns-then-is_form
minus_parts-returns-then-is_form t c = search minus-parts-laws

pub minus_parts-returns-in-Some : goal.minus_parts-returns-in-Some
minus_parts-returns-in-Some t c = search minus-parts-laws

pub minus_parts-returns-in-None : goal.minus_parts-returns-in-None
minus_parts-returns-in-None t c = search minus-parts-laws

pub one-returns-then-f-ge11 : goal.one-returns-then-f-ge11
one-returns-then-f-ge11 t c = search one_laws

pub one-returns : goal.one-returns
one-returns t c = search one_laws

pub place-returns-in-Leaf : goal.place-returns-in-Leaf
place-returns-in-Leaf t c = search place-laws

pub place-returns-in-Form : goal.place-returns-in-Form
place-returns-in-Form t c = search place-laws

pub place-returns-in-Shut : goal.place-returns-in-Shut
place-returns-in-Shut t c = search place-laws

pub place_headed-returns-in-At : goal.place_headed-returns-in-At
place_headed-returns-in-At t c = search by-place-laws

pub place_headed-returns-in-Dot : goal.place_headed-returns-in-Dot
place_headed-returns-in-Dot t c = search by-place-laws

pub second-returns : goal.second-returns
second-returns t c = search second_is

pub set_form-returns-then-is_form : goal.set_form-returns-then-is_form
set_form-returns-then-is_form t c = search set-form-laws

pub set_form-returns : goal.set_form-returns
set_form-returns t c = search set-form-laws

pub target-returns-then-depth-eq0 : goal.target-returns-then-depth-eq0
target-returns-then-depth-eq0 t c = search target-laws

pub target-returns-in-Leaf : goal.target-returns-in-Leaf
target-returns-in-Leaf t c = search target-laws

pub target-returns-in-Form : goal.target-returns-in-Form
target-returns-in-Form t c = search target-laws

pub target-returns-in-Shut : goal.target-returns-in-Shut
target-returns-in-Shut t c = search target-laws

pub two-returns-then-is_form : goal.two-returns-then-is_form
two-returns-then-is_form t c = search two-laws

pub two-returns : goal.two-returns
two-returns t c = search two-laws

pub place_headed-returns-in_default : goal.place_headed-returns-in_default
place_headed-returns-in_default t c = search by-place-laws

pub headed-returns-in-Two : goal.headed-returns-in-Two
headed-returns-in-Two t c = search by-laws

pub headed-returns-in-Two-2 : goal.headed-returns-in-Two-2
headed-returns-in-Two-2 t c = search by-laws

pub headed-returns-in-Nothing : goal.headed-returns-in-Nothing
headed-returns-in-Nothing t c = search by-laws
