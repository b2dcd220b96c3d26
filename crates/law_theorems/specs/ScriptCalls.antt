-- A body whose calls have a property of the procedure's number and its parameters' types. The laws are in proofs/.
use Rattle.std.specs.Prelude.{List, ℕ}
use Rattle.law.specs.Script as X

module _ (P : ℕ → List ℕ → Type 0) where
  mutual
    pub data Calling : X.Stmt → Type 0 where
      assign : {n : ℕ} {g : X.Target} {e : X.Expr} → Calling (X.assign n g e)
      begin : {n : ℕ} {ss : X.Stmts} → CallingAll ss → Calling (X.begin n ss)
      if_else : {n : ℕ} {e : X.Expr} {a b : X.Stmt} → Calling a → Calling b → Calling (X.if_else n e a b)
      while : {n : ℕ} {e : X.Expr} {a : X.Stmt} → Calling a → Calling (X.while n e a)
      for : {n i : ℕ} {a b : X.Expr} {s : X.Stmt} → Calling s → Calling (X.for n i a b s)
      case : {n : ℕ} {e : X.Expr} {bs : X.Arms} → CallingArms bs → Calling (X.case n e bs)
      call : {n p : ℕ} {ts : List ℕ} {es : X.Exprs} → P p ts → Calling (X.call n p ts es)
      raise : {n : ℕ} {e : X.Expr} → Calling (X.raise n e)
      skip : Calling X.skip

    pub data CallingAll : X.Stmts → Type 0 where
      done : CallingAll X.done
      ◌next◌ : {s : X.Stmt} {ss : X.Stmts} → Calling s → CallingAll ss → CallingAll (X.◌next◌ s ss)

    pub data CallingArms : X.Arms → Type 0 where
      else_arm : {s : X.Stmt} → Calling s → CallingArms (X.else_arm s)
      no_else : CallingArms X.no_else
      arm : {cs : List X.Const} {s : X.Stmt} {bs : X.Arms} → Calling s → CallingArms bs → CallingArms (X.arm cs s bs)

  infixr 40 ◌next◌
  pub record CallingBody (b : X.Body) : Type 0 where
    pub stmts : CallingAll b.stmts
    pub handler : CallingAll b.handler
