-- The calls of a body are to procedures as their names say.
use mathlib.Core.Path.{◌≡◌, refl}
use mathlib.Core.List.{List}
use mathlib.Core.Option.{some}
use Prim.Native.Nat.{ℕ}
use Rattle.law.specs.Base.{Name, find}
use Rattle.law.specs.Environment.{Environment, NameSort, a_proc, a_type, a_value, a_var}
use Rattle.law.specs.Names.{arms_of, as_proc, body_of, stmt_of, stmts_of}
use Rattle.law.specs.Script as X
use Rattle.law.specs.Syntax as S
use Rattle.law_theorems.proofs.Inversion.{none-some, some_inj, bind-some}
use Rattle.law_theorems.specs.ScriptCalls.{Calling, CallingAll, CallingArms, CallingBody, ◌next◌, arm, assign, begin, call, case, done, else_arm, for, if_else, no_else, raise, skip, while}

pub proc-is : (m : NameSort) (p : ℕ × List ℕ) → as_proc m ≡ some p → m ≡ a_proc p.0 p.1
proc-is (a_type t) p h = none-some h
proc-is (a_var i) p h = none-some h
proc-is (a_proc q ts) p h = rw (← some_inj h) refl
proc-is (a_value c) p h = none-some h

module _ (σ : Environment) (P : ℕ → List ℕ → Type 0) (named : (w : Name) (p : ℕ) (ts : List ℕ) → find σ.names w ≡ some (a_proc p ts) → P p ts) where
  mutual
    unfolding stmt_of

    stmt-calling : (s : S.Stmt) (x : X.Stmt) → stmt_of σ s ≡ some x → Calling P x
    stmt-calling (S.assign n g e) x h = bind-some h λ r _ h. bind-some h λ y _ e. rw (← some_inj e) assign
    stmt-calling (S.begin n ss) x h = bind-some h λ y hy e. rw (← some_inj e) (begin (stmts-calling ss y hy))
    stmt-calling (S.if_else n e a b) x h = bind-some h λ c _ h. bind-some h λ y hy h. bind-some h λ z hz e. rw (← some_inj e) (if_else (stmt-calling a y hy) (stmt-calling b z hz))
    stmt-calling (S.while n e a) x h = bind-some h λ c _ h. bind-some h λ y hy e. rw (← some_inj e) (while (stmt-calling a y hy))
    stmt-calling (S.for n w a b s) x h = bind-some h λ i _ h. bind-some h λ c _ h. bind-some h λ d _ h. bind-some h λ y hy e. rw (← some_inj e) (for (stmt-calling s y hy))
    stmt-calling (S.case n e bs) x h = bind-some h λ c _ h. bind-some h λ y hy e. rw (← some_inj e) (case (arms-calling bs y hy))
    stmt-calling (S.call n w es) x h = bind-some h λ p hp h. bind-some h λ xs _ e. bind-some hp λ m hm q.
        rw (← some_inj e) (call (named w p.0 p.1 (rw (proc-is m p q) at hm)))
    stmt-calling (S.raise n e) x h = bind-some h λ y _ e. rw (← some_inj e) raise
    stmt-calling S.skip x h = rw (← some_inj h) skip

    stmts-calling : (ss : S.Stmts) (x : X.Stmts) → stmts_of σ ss ≡ some x → CallingAll P x
    stmts-calling S.done x h = rw (← some_inj h) done
    stmts-calling (S.◌next◌ s ss) x h = bind-some h λ y hy h. bind-some h λ z hz e. rw (← some_inj e) (stmt-calling s y hy next stmts-calling ss z hz)

    arms-calling : (bs : S.Arms) (x : X.Arms) → arms_of σ bs ≡ some x → CallingArms P x
    arms-calling (S.else_arm s) x h = bind-some h λ y hy e. rw (← some_inj e) (else_arm (stmt-calling s y hy))
    arms-calling S.no_else x h = rw (← some_inj h) no_else
    arms-calling (S.arm cs s bs) x h = bind-some h λ ls _ h. bind-some h λ y hy h. bind-some h λ z hz e. rw (← some_inj e) (arm (stmt-calling s y hy) (arms-calling bs z hz))

  pub body-calling : (b : S.Body) (x : X.Body) → body_of σ b ≡ some x → CallingBody P x
  unfolding body_of
  body-calling b x h = bind-some h λ y hy h. bind-some h λ z hz e. rw (← some_inj e) (record { stmts = stmts-calling b.stmts y hy; handler = stmts-calling b.handler z hz })

-- ---- a weaker property

module _ {P Q : ℕ → List ℕ → Type 0} (weaker : (p : ℕ) (ts : List ℕ) → P p ts → Q p ts) where
  mutual
    pub calling-also : {s : X.Stmt} → Calling P s → Calling Q s
    calling-also assign = assign
    calling-also (begin ss) = begin (all-also ss)
    calling-also (if_else a b) = if_else (calling-also a) (calling-also b)
    calling-also (while a) = while (calling-also a)
    calling-also (for a) = for (calling-also a)
    calling-also (case bs) = case (arms-also bs)
    calling-also (call {p = p} {ts = ts} c) = call (weaker p ts c)
    calling-also raise = raise
    calling-also skip = skip

    all-also : {ss : X.Stmts} → CallingAll P ss → CallingAll Q ss
    all-also done = done
    all-also (s next ss) = calling-also s next all-also ss

    arms-also : {bs : X.Arms} → CallingArms P bs → CallingArms Q bs
    arms-also (else_arm a) = else_arm (calling-also a)
    arms-also no_else = no_else
    arms-also (arm a bs) = arm (calling-also a) (arms-also bs)

  pub body-calling-also : {b : X.Body} → CallingBody P b → CallingBody Q b
  body-calling-also h = record { stmts = all-also h.stmts; handler = all-also h.handler }
