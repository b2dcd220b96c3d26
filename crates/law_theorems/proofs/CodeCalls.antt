-- Code that calls only procedures with numbers below k, each with as many arguments as it has parameters.
use mathlib.Core.Path.{◌≡◌, refl, ◌∙◌}
use mathlib.Core.Bool.{Bool, true, false, cond}
use mathlib.Core.List.{List, [], ◌∷◌}
use mathlib.Core.Option.{some}
use Prim.Native.Nat.{ℕ, ◌<◌}
use lib.ListN.{length}
use Rattle.law.specs.Code as C
use Rattle.law.specs.Elaborate.{elab_arguments, elab_arms, elab_body, elab_stmt, elab_stmts}
use Rattle.law.specs.Script as X
use Rattle.law.specs.Types.{Types, Vars, ordinal?, set?}
use Rattle.law_theorems.proofs.Inversion.{none-some, some_inj, both_some, bind-some, given-some}
use Rattle.law_theorems.proofs.Copying.{wholly-by}
use Rattle.law_theorems.specs.ScriptCalls as Calling
use Rattle.law_theorems.specs.ScriptCalls.{Calling, CallingAll, CallingArms, CallingBody}
use Rattle.law_theorems.specs.CodeCalls.{count_codes, Calls, CallsAll, CallsBody, CallsCases, ◌also◌, assign_ordinal, assign_cell, copy_cells, branch_on, call_to, case_of, else_case, for_loop, no_act, no_case, one_case, raise_with, sequence, stop, while_loop}

-- ---- elaborated code

cond-calls : (qs : ℕ → C.Frame) (k : ℕ) (b : Bool) {x y : C.Act} → Calls qs k x → Calls qs k y → Calls qs k (cond b x y)
cond-calls qs k true h g = h
cond-calls qs k false h g = g

-- a procedure's number is below k, and it has so many parameters
pub record Below (qs : ℕ → C.Frame) (k p : ℕ) (ts : List ℕ) : Type 0 where
  pub number : p < k
  pub count : length ts ≡ length (qs p).wants

module _ (Γ : Types) (Δ : Vars) (qs : ℕ → C.Frame) (k : ℕ) where
  arguments-count : (ts : List ℕ) (es : X.Exprs) (cs : C.Codes) → elab_arguments Γ Δ ts es ≡ some cs → count_codes cs ≡ length ts
  unfolding elab_arguments count_codes
  arguments-count [] X.nil cs h = rw (← some_inj h) refl
  arguments-count [] (X.◌and◌ e es) cs h = none-some h
  arguments-count (t ∷ ts) X.nil cs h = none-some h
  arguments-count (t ∷ ts) (X.◌and◌ e es) cs h = both_some h λ c ds _ hds v. rw (← some_inj v, arguments-count ts es ds hds) refl

  mutual
    unfolding elab_stmt

    act-calls : {s : X.Stmt} → Calling (Below qs k) s → (c : C.Act) → elab_stmt Γ Δ s ≡ some c → Calls qs k c
    act-calls Calling.assign c h = bind-some h λ w hw h. bind-some h λ d hd e. rw (← some_inj e) (cond-calls qs k (ordinal? Γ w.type) assign_ordinal (wholly-by (Calls qs k) (set? Γ w.type) _ _ d assign_cell (λ q m e. copy_cells)))
    act-calls (Calling.begin ss) c h = bind-some h λ x hx e. rw (← some_inj e) (sequence (acts-call ss x hx))
    act-calls (Calling.if_else a b) c h = both_some h λ d x hd hx h. bind-some h λ y hy e. rw (← some_inj e) (branch_on (act-calls a x hx) (act-calls b y hy))
    act-calls (Calling.while a) c h = both_some h λ d x hd hx e. rw (← some_inj e) (while_loop (act-calls a x hx))
    act-calls (Calling.for s) c h = bind-some h λ v hv h. both_some h λ x y hx hy h. bind-some h λ z hz e. given-some e λ _ q. rw (← q) (for_loop (act-calls s z hz))
    act-calls (Calling.case bs) c h = bind-some h λ x hx h. bind-some h λ y hy e. given-some e λ _ q. rw (← q) (case_of (cases-call bs _ y hy))
    act-calls (Calling.call {ts = ts} {es = es} p) c h = bind-some h λ cs hcs e. rw (← some_inj e) (call_to p.number (arguments-count ts es cs hcs ∙ p.count))
    act-calls Calling.raise c h = bind-some h λ d hd e. rw (← some_inj e) raise_with
    act-calls Calling.skip c h = rw (← some_inj h) no_act

    acts-call : {ss : X.Stmts} → CallingAll (Below qs k) ss → (c : C.Acts) → elab_stmts Γ Δ ss ≡ some c → CallsAll qs k c
    acts-call Calling.done c h = rw (← some_inj h) stop
    acts-call (Calling.◌next◌ s ss) c h = both_some h λ x y hx hy e. rw (← some_inj e) (act-calls s x hx also acts-call ss y hy)

    cases-call : {bs : X.Arms} → CallingArms (Below qs k) bs → (j : ℕ) (c : C.Cases) → elab_arms Γ Δ j bs ≡ some c → CallsCases qs k c
    cases-call (Calling.else_arm s) j c h = bind-some h λ x hx e. rw (← some_inj e) (else_case (act-calls s x hx))
    cases-call Calling.no_else j c h = rw (← some_inj h) no_case
    cases-call (Calling.arm s bs) j c h = both_some h λ zs x hzs hx h. bind-some h λ y hy e. rw (← some_inj e) (one_case (act-calls s x hx) (cases-call bs j y hy))

  pub body-calls : (q : C.Frame) {b : X.Body} → CallingBody (Below qs k) b → (c : C.BodyCode) → elab_body Γ Δ q b ≡ some c → CallsBody qs k c
  unfolding elab_body
  body-calls q w c h = both_some h λ x y hx hy e. rw (← some_inj e) (record { acts = acts-call w.stmts x hx; handler = acts-call w.handler y hy })

-- ---- other frames, that agree below k

module _ {qs qs' : ℕ → C.Frame} {k : ℕ} (same : (p : ℕ) → p < k → qs' p ≡ qs p) where
  mutual
    calls-also : {a : C.Act} → Calls qs k a → Calls qs' k a
    calls-also assign_ordinal = assign_ordinal
    calls-also assign_cell = assign_cell
    calls-also copy_cells = copy_cells
    calls-also (sequence bs) = sequence (all-also bs)
    calls-also (branch_on a b) = branch_on (calls-also a) (calls-also b)
    calls-also (while_loop a) = while_loop (calls-also a)
    calls-also (for_loop a) = for_loop (calls-also a)
    calls-also (case_of bs) = case_of (cases-also bs)
    calls-also (call_to {p = p} {cs = cs} l c) = call_to {cs = cs} l (rw (same p l) c)
    calls-also raise_with = raise_with
    calls-also no_act = no_act

    all-also : {bs : C.Acts} → CallsAll qs k bs → CallsAll qs' k bs
    all-also stop = stop
    all-also (a also bs) = calls-also a also all-also bs

    cases-also : {bs : C.Cases} → CallsCases qs k bs → CallsCases qs' k bs
    cases-also (else_case a) = else_case (calls-also a)
    cases-also no_case = no_case
    cases-also (one_case a bs) = one_case (calls-also a) (cases-also bs)

  pub body-also : {b : C.BodyCode} → CallsBody qs k b → CallsBody qs' k b
  body-also h = record { acts = all-also h.acts; handler = all-also h.handler }
