-- The numbers of statements in a body with its names resolved are from 1 to l, as the forms counted them.
use mathlib.Core.Path.{◌≡◌}
use mathlib.Core.List.{List}
use mathlib.Core.Option.{some}
use Prim.Native.Nat.{ℕ}
use Rattle.law.specs.Environment.{Environment}
use Rattle.law.specs.Names.{arms_of, body_of, stmt_of, stmts_of}
use Rattle.law.specs.Script as X
use Rattle.law.specs.Syntax as S
use Rattle.law_theorems.proofs.Inversion.{some_inj, bind-some}
use Rattle.law_theorems.proofs.StatementNumbers as Counted
use Rattle.law_theorems.proofs.StatementNumbers.{Counted, CountedAll, CountedArms, CountedBody}
use Rattle.law_theorems.specs.StatementNumbers.{Number}

mutual
  pub data Within (l : ℕ) : X.Stmt → Type 0 where
    assign : {n : ℕ} {g : X.Target} {e : X.Expr} → Number l n → Within l (X.assign n g e)
    begin : {n : ℕ} {ss : X.Stmts} → Number l n → WithinAll l ss → Within l (X.begin n ss)
    if_else : {n : ℕ} {e : X.Expr} {a b : X.Stmt} → Number l n → Within l a → Within l b → Within l (X.if_else n e a b)
    while : {n : ℕ} {e : X.Expr} {a : X.Stmt} → Number l n → Within l a → Within l (X.while n e a)
    for : {n i : ℕ} {a b : X.Expr} {s : X.Stmt} → Number l n → Within l s → Within l (X.for n i a b s)
    case : {n : ℕ} {e : X.Expr} {bs : X.Arms} → Number l n → WithinArms l bs → Within l (X.case n e bs)
    call : {n p : ℕ} {ts : List ℕ} {es : X.Exprs} → Number l n → Within l (X.call n p ts es)
    raise : {n : ℕ} {e : X.Expr} → Number l n → Within l (X.raise n e)
    skip : Within l X.skip

  pub data WithinAll (l : ℕ) : X.Stmts → Type 0 where
    done : WithinAll l X.done
    ◌next◌ : {s : X.Stmt} {ss : X.Stmts} → Within l s → WithinAll l ss → WithinAll l (X.◌next◌ s ss)

  pub data WithinArms (l : ℕ) : X.Arms → Type 0 where
    else_arm : {s : X.Stmt} → Within l s → WithinArms l (X.else_arm s)
    no_else : WithinArms l X.no_else
    arm : {cs : List X.Const} {s : X.Stmt} {bs : X.Arms} → Within l s → WithinArms l bs → WithinArms l (X.arm cs s bs)

infixr 40 ◌next◌
pub record WithinBody (l : ℕ) (b : X.Body) : Type 0 where
  pub stmts : WithinAll l b.stmts
  pub handler : WithinAll l b.handler

module _ (σ : Environment) {l : ℕ} where
  mutual
    unfolding stmt_of

    stmt-within : {s : S.Stmt} → Counted l s → (x : X.Stmt) → stmt_of σ s ≡ some x → Within l x
    stmt-within (Counted.assign n g d) x h = bind-some h λ r hr h. bind-some h λ y hy e. rw (← some_inj e) (assign n)
    stmt-within (Counted.begin n ss) x h = bind-some h λ y hy e. rw (← some_inj e) (begin n (stmts-within ss y hy))
    stmt-within (Counted.if_else n d a b) x h = bind-some h λ c hc h. bind-some h λ y hy h. bind-some h λ z hz e. rw (← some_inj e) (if_else n (stmt-within a y hy) (stmt-within b z hz))
    stmt-within (Counted.while n d a) x h = bind-some h λ c hc h. bind-some h λ y hy e. rw (← some_inj e) (while n (stmt-within a y hy))
    stmt-within (Counted.for n d d' s) x h = bind-some h λ i hi h. bind-some h λ a ha h. bind-some h λ b hb h. bind-some h λ y hy e. rw (← some_inj e) (for n (stmt-within s y hy))
    stmt-within (Counted.case n d bs) x h = bind-some h λ c hc h. bind-some h λ y hy e. rw (← some_inj e) (case n (arms-within bs y hy))
    stmt-within (Counted.call n d) x h = bind-some h λ p hp h. bind-some h λ y hy e. rw (← some_inj e) (call n)
    stmt-within (Counted.raise n d) x h = bind-some h λ y hy e. rw (← some_inj e) (raise n)
    stmt-within Counted.skip x h = rw (← some_inj h) skip

    stmts-within : {ss : S.Stmts} → CountedAll l ss → (x : X.Stmts) → stmts_of σ ss ≡ some x → WithinAll l x
    stmts-within Counted.done x h = rw (← some_inj h) done
    stmts-within (Counted.◌next◌ s ss) x h = bind-some h λ y hy h. bind-some h λ z hz e. rw (← some_inj e) (stmt-within s y hy next stmts-within ss z hz)

    arms-within : {bs : S.Arms} → CountedArms l bs → (x : X.Arms) → arms_of σ bs ≡ some x → WithinArms l x
    arms-within (Counted.else_arm s) x h = bind-some h λ y hy e. rw (← some_inj e) (else_arm (stmt-within s y hy))
    arms-within Counted.no_else x h = rw (← some_inj h) no_else
    arms-within (Counted.arm s bs) x h = bind-some h λ ls hls h. bind-some h λ y hy h. bind-some h λ z hz e. rw (← some_inj e) (arm (stmt-within s y hy) (arms-within bs z hz))

  pub body-within : {b : S.Body} → CountedBody l b → (x : X.Body) → body_of σ b ≡ some x → WithinBody l x
  unfolding body_of
  body-within c x h = bind-some h λ y hy h. bind-some h λ z hz e. rw (← some_inj e) (record { stmts = stmts-within c.stmts y hy; handler = stmts-within c.handler z hz })
