use Rattle.rule_restrictions.proofs.Cases.{arm-laws, arms-falls, arms-laws, arms_start, case-laws, cases-laws}
use Rattle.rule_restrictions.proofs.Ways.{do-falls, do-laws, do-start, else-laws, for-laws, if-laws, inner_laws, stmt-laws, then-laws, verb-laws, while-laws}
use Rattle.rule_restrictions.proofs.walk.+walk.Goals as goal

pub all_arms-loop-q-init : goal.all_arms-loop-q-init
all_arms-loop-q-init t c = arms_start _ _ _ _ _ _

pub all_arms-returns-in-Past : goal.all_arms-returns-in-Past
all_arms-returns-in-Past t c = search arms-laws

pub all_arms-returns-in-Else : goal.all_arms-returns-in-Else
all_arms-returns-in-Else t c = search arms-laws

pub all_arms-returns-in-Nothing : goal.all_arms-returns-in-Nothing
all_arms-returns-in-Nothing t c = search arms-laws

pub all_arms-loop-q-smaller : goal.all_arms-loop-q-smaller
all_arms-loop-q-smaller t c = search arms-falls

pub all_arms-loop-q-preserved : goal.all_arms-loop-q-preserved
all_arms-loop-q-preserved t c = search arms-laws

pub all_arms-returns-else-arm : goal.all_arms-returns-else-arm
all_arms-returns-else-arm t c = search arms-laws

pub arm-returns-in-Stmt : goal.arm-returns-in-Stmt
arm-returns-in-Stmt t c = search arm-laws

pub arm-returns-in-Broken : goal.arm-returns-in-Broken
arm-returns-in-Broken t c = search arm-laws

pub arm-returns-in-Nothing : goal.arm-returns-in-Nothing
arm-returns-in-Nothing t c = search arm-laws

pub case_arms-returns-then-all_arms : goal.case_arms-returns-then-all_arms
case_arms-returns-then-all_arms t c = search cases-laws

pub case_arms-returns-else-all_arms : goal.case_arms-returns-else-all_arms
case_arms-returns-else-all_arms t c = search cases-laws

pub case_of-returns-then-plain_part : goal.case_of-returns-then-plain_part
case_of-returns-then-plain_part t c = search case-laws

pub case_of-returns-else-plain_part : goal.case_of-returns-else-plain_part
case_of-returns-else-plain_part t c = search case-laws

pub else_part-returns-in-Some : goal.else_part-returns-in-Some
else_part-returns-in-Some t c = search else-laws

pub else_part-returns-in-None : goal.else_part-returns-in-None
else_part-returns-in-None t c = search else-laws

pub for_loop-returns : goal.for_loop-returns
for_loop-returns t c = search for-laws

pub for_loop-returns-in_default : goal.for_loop-returns-in_default
for_loop-returns-in_default t c = search for-laws

pub headed-returns-in-Assign : goal.headed-returns-in-Assign
headed-returns-in-Assign t c = search verb-laws

pub headed-returns-in-Begin : goal.headed-returns-in-Begin
headed-returns-in-Begin t c = search verb-laws

pub headed-returns-in-If : goal.headed-returns-in-If
headed-returns-in-If t c = search verb-laws

pub headed-returns-in-While : goal.headed-returns-in-While
headed-returns-in-While t c = search verb-laws

pub headed-returns-in-For : goal.headed-returns-in-For
headed-returns-in-For t c = search verb-laws

pub headed-returns-in-Case : goal.headed-returns-in-Case
headed-returns-in-Case t c = search verb-laws

pub headed-returns-in-Call : goal.headed-returns-in-Call
headed-returns-in-Call t c = search verb-laws

pub headed-returns-in-Raise : goal.headed-returns-in-Raise
headed-returns-in-Raise t c = search verb-laws

pub headed-returns-in-Nothing : goal.headed-returns-in-Nothing
headed-returns-in-Nothing t c = search verb-laws

pub if_else-returns-then-plain_part : goal.if_else-returns-then-plain_part
if_else-returns-then-plain_part t c = search if-laws

pub if_else-returns-else-plain_part : goal.if_else-returns-else-plain_part
if_else-returns-else-plain_part t c = search if-laws

pub if_then-returns-then-stmt : goal.if_then-returns-then-stmt
if_then-returns-then-stmt t c = search then-laws

pub if_then-returns-else-stmt : goal.if_then-returns-else-stmt
if_then-returns-else-stmt t c = search then-laws

pub inner-returns-in-Leaf : goal.inner-returns-in-Leaf
inner-returns-in-Leaf t c = search inner_laws

pub inner-returns-in_default : goal.inner-returns-in_default
inner-returns-in_default t c = search inner_laws

pub stmt-returns-then-depth-eq0 : goal.stmt-returns-then-depth-eq0
stmt-returns-then-depth-eq0 t c = search stmt-laws

pub stmt-returns-in-Form : goal.stmt-returns-in-Form
stmt-returns-in-Form t c = search stmt-laws

pub stmt-returns-in_default : goal.stmt-returns-in_default
stmt-returns-in_default t c = search stmt-laws

pub stmts-loop-p-init : goal.stmts-loop-p-init
stmts-loop-p-init t c = do-start _ _ _ _ _ _

pub stmts-returns-in-Some : goal.stmts-returns-in-Some
stmts-returns-in-Some t c = search do-laws

pub stmts-loop-p-smaller : goal.stmts-loop-p-smaller
stmts-loop-p-smaller t c = search do-falls

pub stmts-loop-p-preserved : goal.stmts-loop-p-preserved
stmts-loop-p-preserved t c = search do-laws

pub stmts-returns-else-stmt : goal.stmts-returns-else-stmt
stmts-returns-else-stmt t c = search do-laws

pub while_loop-returns-then-plain_part : goal.while_loop-returns-then-plain_part
while_loop-returns-then-plain_part t c = search while-laws

pub while_loop-returns-else-plain_part : goal.while_loop-returns-else-plain_part
while_loop-returns-else-plain_part t c = search while-laws
