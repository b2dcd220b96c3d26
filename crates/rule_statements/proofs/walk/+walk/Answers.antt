use mathlib.Core.Path.{refl}
use borrow.Author.Rules.{rules}
use Rattle.rule_statements.proofs.ArmLoop.{arms-falls, arms-laws, arms_next, arms_start}
use Rattle.rule_statements.proofs.ArmWays.{arm-way, case-way, else-way, stmt-way}
use Rattle.rule_statements.proofs.CaseWays.{case-laws}
use Rattle.rule_statements.proofs.Repeats.{begin-way, chain-falls, Chain-laws, chain_next, chain-start, for-do, for-from-laws, for-laws, for-to-laws}
use Rattle.rule_statements.proofs.Ways.{else-laws, headed-laws, if-laws, inner_laws, stmt-laws, then-laws, while-laws}
use Rattle.rule_statements.proofs.walk.+walk.Goals as goal

pub acts-loop-q-init : goal.acts-loop-q-init
acts-loop-q-init t c = (refl, search chain-start)

pub acts-returns-in-Some : goal.acts-returns-in-Some
acts-returns-in-Some t c = search Chain-laws

pub acts-returns-then-is_form : goal.acts-returns-then-is_form
acts-returns-then-is_form t c = search Chain-laws

pub acts-loop-q-smaller : goal.acts-loop-q-smaller
acts-loop-q-smaller t c = search chain-falls

pub acts-loop-q-preserved : goal.acts-loop-q-preserved
acts-loop-q-preserved t c = (search rules, search chain_next)

pub all_arms-loop-q-init : goal.all_arms-loop-q-init
all_arms-loop-q-init t c = (refl, search arms_start)

pub all_arms-returns-in-Past : goal.all_arms-returns-in-Past
all_arms-returns-in-Past t c = search arms-laws

pub all_arms-returns-in-Else : goal.all_arms-returns-in-Else
all_arms-returns-in-Else t c = search arms-laws

pub all_arms-returns-in-Nothing : goal.all_arms-returns-in-Nothing
all_arms-returns-in-Nothing t c = search arms-laws

pub all_arms-returns-then-is_form : goal.all_arms-returns-then-is_form
all_arms-returns-then-is_form t c = search arms-laws

pub all_arms-loop-q-smaller : goal.all_arms-loop-q-smaller
all_arms-loop-q-smaller t c = search arms-falls

pub all_arms-loop-q-preserved : goal.all_arms-loop-q-preserved
all_arms-loop-q-preserved t c = (search rules, search arms_next)

pub arm-returns : goal.arm-returns
arm-returns t c = search arm-way

pub arm_stmt-returns : goal.arm_stmt-returns
arm_stmt-returns t c = search stmt-way

pub begin-returns : goal.begin-returns
begin-returns t c = search begin-way

pub case_arms-returns : goal.case_arms-returns
case_arms-returns t c = search case-way

pub case_of-returns-then-is_form : goal.case_of-returns-then-is_form
case_of-returns-then-is_form t c = search case-laws

pub case_of-returns : goal.case_of-returns
case_of-returns t c = search case-laws

pub else_arm-returns : goal.else_arm-returns
else_arm-returns t c = search else-way

pub else_part-returns-in-Some : goal.else_part-returns-in-Some
else_part-returns-in-Some t c = search else-laws

pub else_part-returns-in-None : goal.else_part-returns-in-None
else_part-returns-in-None t c = search else-laws

pub for_do-returns : goal.for_do-returns
for_do-returns t c = search for-do

pub for_from-returns-then-is_form : goal.for_from-returns-then-is_form
for_from-returns-then-is_form t c = search for-from-laws

pub for_from-returns : goal.for_from-returns
for_from-returns t c = search for-from-laws

pub for_loop-returns-then-is_named : goal.for_loop-returns-then-is_named
for_loop-returns-then-is_named t c = search for-laws

pub for_loop-returns-else-is_named : goal.for_loop-returns-else-is_named
for_loop-returns-else-is_named t c = search for-laws

pub for_loop-returns-in-Form : goal.for_loop-returns-in-Form
for_loop-returns-in-Form t c = search for-laws

pub for_loop-returns-in-Shut : goal.for_loop-returns-in-Shut
for_loop-returns-in-Shut t c = search for-laws

pub for_to-returns-then-is_form : goal.for_to-returns-then-is_form
for_to-returns-then-is_form t c = search for-to-laws

pub for_to-returns : goal.for_to-returns
for_to-returns t c = search for-to-laws

pub headed-returns-in-Assign : goal.headed-returns-in-Assign
headed-returns-in-Assign t c = search headed-laws

pub headed-returns-in-Begin : goal.headed-returns-in-Begin
headed-returns-in-Begin t c = search headed-laws

pub headed-returns-in-If : goal.headed-returns-in-If
headed-returns-in-If t c = search headed-laws

pub headed-returns-in-While : goal.headed-returns-in-While
headed-returns-in-While t c = search headed-laws

pub headed-returns-in-For : goal.headed-returns-in-For
headed-returns-in-For t c = search headed-laws

pub headed-returns-in-Case : goal.headed-returns-in-Case
headed-returns-in-Case t c = search headed-laws

pub headed-returns-in-Call : goal.headed-returns-in-Call
headed-returns-in-Call t c = search headed-laws

pub headed-returns-in-Raise : goal.headed-returns-in-Raise
headed-returns-in-Raise t c = search headed-laws

pub headed-returns-in-Nothing : goal.headed-returns-in-Nothing
headed-returns-in-Nothing t c = search headed-laws

pub if_else-returns-then-is_form : goal.if_else-returns-then-is_form
if_else-returns-then-is_form t c = search if-laws

pub if_else-returns : goal.if_else-returns
if_else-returns t c = search if-laws

pub if_then-returns-then-is_form : goal.if_then-returns-then-is_form
if_then-returns-then-is_form t c = search then-laws

pub if_then-returns : goal.if_then-returns
if_then-returns t c = search then-laws

pub inner-returns-in-Leaf : goal.inner-returns-in-Leaf
inner-returns-in-Leaf t c = search inner_laws

pub inner-returns-in-Form : goal.inner-returns-in-Form
inner-returns-in-Form t c = search inner_laws

pub inner-returns-in-Shut : goal.inner-returns-in-Shut
inner-returns-in-Shut t c = search inner_laws

pub stmt-returns-then-depth-eq0 : goal.stmt-returns-then-depth-eq0
stmt-returns-then-depth-eq0 t c = search stmt-laws

pub stmt-returns-in-Leaf : goal.stmt-returns-in-Leaf
stmt-returns-in-Leaf t c = search stmt-laws

pub stmt-returns-in-Form : goal.stmt-returns-in-Form
stmt-returns-in-Form t c = search stmt-laws

pub stmt-returns-in-Shut : goal.stmt-returns-in-Shut
stmt-returns-in-Shut t c = search stmt-laws

pub while_loop-returns-then-is_form : goal.while_loop-returns-then-is_form
while_loop-returns-then-is_form t c = search while-laws

pub while_loop-returns : goal.while_loop-returns
while_loop-returns t c = search while-laws
