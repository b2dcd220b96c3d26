use borrow.Author.Rules.{sfits_of}
use borrow.Author.Rules.{rules}
use Rattle.mark_statements.proofs.Branching.{case-laws, else-laws, if-laws, inner_laws, stmt-laws, verb-laws}
use Rattle.mark_statements.proofs.Calling.{call-laws}
use Rattle.mark_statements.proofs.Chains.{front-falls, front-laws, front-next, front-start, stmts-falls, stmts-laws, stmts-next, stmts-start}
use Rattle.mark_statements.proofs.Looping.{for-laws, rounds-laws, rounds-next, turn-falls, turn-start, while-falls, while-laws, while-next, while-start, while-stops}
use Rattle.mark_statements.proofs.Serving.{body_is, within-laws}
use Rattle.mark_statements.proofs.walk.Setting.+walk.Goals as goal

pub body_from-returns-then-o-lt-RAISED : goal.body_from-returns-then-o-lt-RAISED
body_from-returns-then-o-lt-RAISED t c = search within-laws

pub body_from-returns-then-o-ge-STICKS : goal.body_from-returns-then-o-ge-STICKS
body_from-returns-then-o-ge-STICKS t c = search within-laws

pub body_from-returns-in-Some : goal.body_from-returns-in-Some
body_from-returns-in-Some t c = search within-laws

pub body_from-returns-in-None : goal.body_from-returns-in-None
body_from-returns-in-None t c = search within-laws

pub call-returns-then-self-eq0 : goal.call-returns-then-self-eq0
call-returns-then-self-eq0 t c = search call-laws

pub call-returns-in-Err : goal.call-returns-in-Err
call-returns-in-Err t c = search call-laws

pub call-returns-in-Ok : goal.call-returns-in-Ok
call-returns-in-Ok t c = search call-laws

pub choose-returns-then-w-gt-GREATEST : goal.choose-returns-then-w-gt-GREATEST
choose-returns-then-w-gt-GREATEST t c = search case-laws

pub choose-returns-in-Taken : goal.choose-returns-in-Taken
choose-returns-in-Taken t c = search case-laws

pub choose-returns-in-Absent : goal.choose-returns-in-Absent
choose-returns-in-Absent t c = search case-laws

pub choose-returns-in-Stuck : goal.choose-returns-in-Stuck
choose-returns-in-Stuck t c = search case-laws

pub count_up-returns-in-Rounds : goal.count_up-returns-in-Rounds
count_up-returns-in-Rounds t c = search for-laws

pub count_up-returns-in-NoRound : goal.count_up-returns-in-NoRound
count_up-returns-in-NoRound t c = search for-laws

pub count_up-returns-in-Outside : goal.count_up-returns-in-Outside
count_up-returns-in-Outside t c = search for-laws

pub count_up-returns-in-Err : goal.count_up-returns-in-Err
count_up-returns-in-Err t c = search for-laws

pub else_part-returns-in-Some : goal.else_part-returns-in-Some
else_part-returns-in-Some t c = search else-laws

pub else_part-returns-in-None : goal.else_part-returns-in-None
else_part-returns-in-None t c = search else-laws

pub front-loop-store-init : goal.front-loop-store-init
front-loop-store-init t c = search front-start

pub front-returns-in-Past : goal.front-returns-in-Past
front-returns-in-Past t c = search front-laws

pub front-returns-in-Handler : goal.front-returns-in-Handler
front-returns-in-Handler t c = search front-laws

pub front-returns-then-stopped : goal.front-returns-then-stopped
front-returns-then-stopped t c = search front-laws

pub front-loop-store-smaller : goal.front-loop-store-smaller
front-loop-store-smaller t c = search front-falls

pub front-loop-store-preserved : goal.front-loop-store-preserved
front-loop-store-preserved t c = search front-next

pub headed-returns-in-Assign : goal.headed-returns-in-Assign
headed-returns-in-Assign t c = search verb-laws

pub headed-returns-in-Begin : goal.headed-returns-in-Begin
headed-returns-in-Begin t c = search verb-laws

pub headed-returns-in-If : goal.headed-returns-in-If
headed-returns-in-If t c = search verb-laws

pub headed-returns-in-While : goal.headed-returns-in-While
headed-returns-in-While t c = search verb-laws

pub headed-returns-in-For : goal.headed-returns-in-For
headed-returns-in-For t c = search verb-laws

pub headed-returns-in-Case : goal.headed-returns-in-Case
headed-returns-in-Case t c = search verb-laws

pub headed-returns-in-Call : goal.headed-returns-in-Call
headed-returns-in-Call t c = search verb-laws

pub headed-returns-in-Raise : goal.headed-returns-in-Raise
headed-returns-in-Raise t c = search verb-laws

pub headed-returns-in-Nothing : goal.headed-returns-in-Nothing
headed-returns-in-Nothing t c = search verb-laws

pub if_else-returns-then-x-gt-GREATEST : goal.if_else-returns-then-x-gt-GREATEST
if_else-returns-then-x-gt-GREATEST t c = search if-laws

pub if_else-returns-then-x-gt0 : goal.if_else-returns-then-x-gt0
if_else-returns-then-x-gt0 t c = search if-laws

pub if_else-returns : goal.if_else-returns
if_else-returns t c = search if-laws

pub inner-returns-then-t-gt4294967295 : goal.inner-returns-then-t-gt4294967295
inner-returns-then-t-gt4294967295 t c = search inner_laws

pub inner-returns-else-t-gt4294967295 : goal.inner-returns-else-t-gt4294967295
inner-returns-else-t-gt4294967295 t c = search inner_laws

pub inner-returns-in-Form : goal.inner-returns-in-Form
inner-returns-in-Form t c = search inner_laws

pub inner-returns-in-Shut : goal.inner-returns-in-Shut
inner-returns-in-Shut t c = search inner_laws

pub mark_body-returns : goal.mark_body-returns
mark_body-returns t c = search (body_is, rules)

pub mark_stmt-returns-then-depth-eq0 : goal.mark_stmt-returns-then-depth-eq0
mark_stmt-returns-then-depth-eq0 t c = search stmt-laws

pub mark_stmt-returns-in-Leaf : goal.mark_stmt-returns-in-Leaf
mark_stmt-returns-in-Leaf t c = search stmt-laws

pub mark_stmt-returns-in-Form : goal.mark_stmt-returns-in-Form
mark_stmt-returns-in-Form t c = search stmt-laws

pub mark_stmt-returns-in-Shut : goal.mark_stmt-returns-in-Shut
mark_stmt-returns-in-Shut t c = search stmt-laws

pub repeat-loop-store-init : goal.repeat-loop-store-init
repeat-loop-store-init t c = search while-start

pub repeat-returns-then-x-gt-GREATEST : goal.repeat-returns-then-x-gt-GREATEST
repeat-returns-then-x-gt-GREATEST t c = search while-laws

pub repeat-returns-then-x-le0 : goal.repeat-returns-then-x-le0
repeat-returns-then-x-le0 t c = search while-laws

pub repeat-returns-then-u-gt4294967295 : goal.repeat-returns-then-u-gt4294967295
repeat-returns-then-u-gt4294967295 t c = search while-laws

pub repeat-returns-then-o-gt4294967295 : goal.repeat-returns-then-o-gt4294967295
repeat-returns-then-o-gt4294967295 t c = search (while-stops, sfits_of)

pub repeat-loop-store-smaller : goal.repeat-loop-store-smaller
repeat-loop-store-smaller t c = search (while-falls, sfits_of)

pub repeat-loop-store-preserved : goal.repeat-loop-store-preserved
repeat-loop-store-preserved t c = search (while-next, sfits_of)

pub rounds-loop-depth-init : goal.rounds-loop-depth-init
rounds-loop-depth-init t c = search (turn-start, rules)

pub rounds-returns-then-u-gt4294967295 : goal.rounds-returns-then-u-gt4294967295
rounds-returns-then-u-gt4294967295 t c = search rounds-laws

pub rounds-returns-then-o-gt4294967295 : goal.rounds-returns-then-o-gt4294967295
rounds-returns-then-o-gt4294967295 t c = search rounds-laws

pub rounds-returns-then-at_last : goal.rounds-returns-then-at_last
rounds-returns-then-at_last t c = search rounds-laws

pub rounds-loop-depth-smaller : goal.rounds-loop-depth-smaller
rounds-loop-depth-smaller t c = search (turn-falls, sfits_of)

pub rounds-loop-depth-preserved : goal.rounds-loop-depth-preserved
rounds-loop-depth-preserved t c = search (rounds-next, sfits_of)

pub stmts-loop-store-init : goal.stmts-loop-store-init
stmts-loop-store-init t c = search stmts-start

pub stmts-returns-in-Some : goal.stmts-returns-in-Some
stmts-returns-in-Some t c = search stmts-laws

pub stmts-returns-then-stopped : goal.stmts-returns-then-stopped
stmts-returns-then-stopped t c = search stmts-laws

pub stmts-loop-store-smaller : goal.stmts-loop-store-smaller
stmts-loop-store-smaller t c = search stmts-falls

pub stmts-loop-store-preserved : goal.stmts-loop-store-preserved
stmts-loop-store-preserved t c = search stmts-next
