-- What the walk over statements and bodies promises: where they read as such and their names are found, in a script whose bodies stand in the table,
-- the words and the steps that it leaves are those of the marking machine (law, Marking and Whole). The steps left never grow.
use Rattle.std.specs.Prelude.{List, map, ◌≡◌, Bool, true, ℕ, suc, ◌<◌, ◌≤◌, ℤ, ◌-ℤ◌, length, get_or, take}
use Rattle.std.proofs.Math.Option.{Option, some}
use Rattle.std.proofs.Math.IntN.{suc_ℤ}
use Rattle.std.specs.Int.Signed.{le_z}
use Rattle.law.specs.Base.{Name, ◌>>=◌, find}
use Rattle.law.specs.Calculate.{nat_of}
use Rattle.law.specs.Environment.{Environment, PlacedBody, a_proc, want_of}
use Rattle.law.specs.Machine.{Answer, State, for_rounds, handled, while_rounds}
use Rattle.law.specs.Marking.{mark_condition, mark_stmt, mark_stmts}
use Rattle.law.specs.Names.{expr_of, stmt_of, stmts_of, body_of}
use Rattle.law.specs.Script as Script
use Rattle.law.specs.Syntax.{Expr, Stmt, Stmts, Body}
use Rattle.law.specs.Trees.{form, Trees, end, ◌then◌, Run, first}
use Rattle.law_theorems.specs.Readings.{stack_at}
use Rattle.law.specs.Whole.{mark_body}
use Rattle.law_theorems.specs.TypeSizes.{SmallTypes}
use Rattle.code_calc.specs.Words.{InRange}
use Rattle.text_heads.specs.declared.Verb.{Verb}
use Rattle.text_heads.specs.Parts.{expr_in, stmt_in, stmts_in, else_in, body_in}
use Rattle.mark_steps.specs.Ends.{left_in}
use Rattle.mark_steps.specs.Stands.{after}
use Rattle.table_scope.specs.declared.Scope.{Scope}
use Rattle.table_scope.specs.Scene.{Scene}
use Rattle.rule_statements.specs.Walks.{verb_in}
use Rattle.table_bodies.specs.Procedures.{procs_of}
use Rattle.table_bodies.specs.Table.{AllStand}
use Rattle.mark_acts.specs.Ends.{MarkRuns}

-- ---- what was read, with its names found; so few statements that their numbers have 32 bits

pub record Found (σ : Environment) (o : Option (Stmt × ℕ)) : Type 0 where
  pub form : Stmt × ℕ
  pub stmt : Script.Stmt
  pub reads : o ≡ some form
  pub names : stmt_of σ form.0 ≡ some stmt
  pub few : form.1 ≤ 4294967295

pub record FoundAll (σ : Environment) (o : Option (Stmts × ℕ)) : Type 0 where
  pub form : Stmts × ℕ
  pub stmts : Script.Stmts
  pub reads : o ≡ some form
  pub names : stmts_of σ form.0 ≡ some stmts
  pub few : form.1 ≤ 4294967295

pub record FoundBody (σ : Environment) (o : Option (Body × ℕ)) : Type 0 where
  pub form : Body × ℕ
  pub body : Script.Body
  pub reads : o ≡ some form
  pub names : body_of σ form.0 ≡ some body
  pub few : form.1 ≤ 4294967295

pub record FoundExpr (σ : Environment) (o : Option Expr) : Type 0 where
  pub form : Expr
  pub expr : Script.Expr
  pub reads : o ≡ some form
  pub names : expr_of σ form ≡ some expr

-- the statements of a body before its handler
unfoldable pub front_in : ℕ → Trees Run → Option (Stmts × ℕ)
front_in n us = body_in n us >>= λ b. some (b.0.stmts, b.1)

-- ---- where a statement is run: its environment, the script's bodies and how many are before its own, which it may call. us are the types of the
-- whole script, ts those that its body sees

pub record Setting (s l us ts tb : List ℕ) (scope : Scope) (calls : ℕ) : Type 0 where
  pub env : Environment
  pub places : List ℕ  -- of the procedures' nodes
  pub bodies : List PlacedBody
  pub other : PlacedBody
  pub before : ℕ
  pub top : ℕ
  pub scene : Scene s l ts scope top env (take before places)
  pub placed : before ≤ length places
  pub small : SmallTypes env.types
  pub all : AllStand s l us tb places bodies other
  pub callees : (w : Name) (p : ℕ) (vs : List ℕ) → find env.names w ≡ some (a_proc p vs) → (get_or bodies p other).frame.wants ≡ map (want_of env.types) vs
  pub few : before < length bodies
  pub deep : before ≤ calls

module _ {s l us ts tb : List ℕ} {scope : Scope} {calls : ℕ} (F : Setting s l us ts tb scope calls) where
  abbrev pub machine : Script.Stmt → State → Answer
  machine y = mark_stmt F.env.types F.env.vars (procs_of F.other F.bodies F.before) y

  abbrev pub machines : Script.Stmts → State → Answer
  machines ys = mark_stmts F.env.types F.env.vars (procs_of F.other F.bodies F.before) ys

  -- a body, with its handler
  abbrev pub serving : Script.Body → State → Answer
  serving b t = handled b.handles (machines b.stmts t) (machines b.handler)

  abbrev pub testing : ℕ → Script.Expr → State → (Bool → Answer) → Answer
  testing n e = mark_condition F.env.types F.env.vars n e

-- ---- the promises

module _ (s l us ts tb : List ℕ) (scope : Scope) (calls : ℕ) where
  -- a statement at most d deep, where n is the number of the last one before
  pub record MarksStmt (d n at : ℕ) (ws : List ℤ) (left : ℕ) (ws' : List ℤ) (r : ℕ) : Type 0 where
    pub runs : (F : Setting s l us ts tb scope calls) (X : Found F.env (stmt_in d n (first (stack_at s at)))) → MarkRuns (machine F X.stmt) ws left ws' r
    pub fewer : left_in r ≤ left

  -- all parts of its form, from past the opening bracket
  pub record MarksInner (d n at : ℕ) (ws : List ℤ) (left : ℕ) (ws' : List ℤ) (r : ℕ) : Type 0 where
    pub runs : (F : Setting s l us ts tb scope calls) (X : Found F.env (stmt_in (suc d) n (form (first (stack_at s at)) then end))) → MarkRuns (machine F X.stmt) ws left ws' r
    pub fewer : left_in r ≤ left

  -- the parts after the head word, after the step; n is the statement's number
  pub record MarksVerb (v : Verb) (d n at : ℕ) (ws : List ℤ) (left : ℕ) (ws' : List ℤ) (r : ℕ) : Type 0 where
    pub runs : (F : Setting s l us ts tb scope calls) (X : Found F.env (verb_in v d n (first (stack_at s at)))) → MarkRuns (after (machine F X.stmt)) ws left ws' r
    pub fewer : left_in r ≤ left

  -- the third part of an `if`, which may be missing
  pub record MarksElse (d n at : ℕ) (ws : List ℤ) (left : ℕ) (ws' : List ℤ) (r : ℕ) : Type 0 where
    pub runs : (F : Setting s l us ts tb scope calls) (X : Found F.env (else_in d n (first (stack_at s at)))) → MarkRuns (machine F X.stmt) ws left ws' r
    pub fewer : left_in r ≤ left

  -- the rounds of `while` n, whose test stands at c and whose statement at b
  pub record MarksWhile (d n c b : ℕ) (ws : List ℤ) (left : ℕ) (ws' : List ℤ) (r : ℕ) : Type 0 where
    pub runs : (F : Setting s l us ts tb scope calls) (E : FoundExpr F.env (expr_in 33 (first (stack_at s c)))) (X : Found F.env (stmt_in d n (first (stack_at s b))))
        → (f : ℕ) → left ≤ f → MarkRuns (while_rounds f (testing F n E.expr) (machine F X.stmt)) ws left ws' r
    pub fewer : left_in r ≤ left

  -- the rounds of `for` n from x to y, in cell a; its statement stands at b
  pub record MarksRounds (d n a : ℕ) (x y : ℤ) (b : ℕ) (ws : List ℤ) (left : ℕ) (ws' : List ℤ) (r : ℕ) : Type 0 where
    pub runs : (F : Setting s l us ts tb scope calls) (X : Found F.env (stmt_in d n (first (stack_at s b)))) → le_z x y ≡ true → InRange x → InRange y
        → MarkRuns (for_rounds (nat_of (suc_ℤ (y -ℤ x))) a (machine F X.stmt) x) ws left ws' r
    pub fewer : left_in r ≤ left

  -- statements to the end of a form
  pub record MarksStmts (d n at : ℕ) (ws : List ℤ) (left : ℕ) (ws' : List ℤ) (r : ℕ) : Type 0 where
    pub runs : (F : Setting s l us ts tb scope calls) (X : FoundAll F.env (stmts_in d n (first (stack_at s at)))) → MarkRuns (machines F X.stmts) ws left ws' r
    pub fewer : left_in r ≤ left

  -- those of a body before its handler
  pub record MarksFront (n at : ℕ) (ws : List ℤ) (left : ℕ) (ws' : List ℤ) (r : ℕ) : Type 0 where
    pub runs : (F : Setting s l us ts tb scope calls) (X : FoundAll F.env (front_in n (first (stack_at s at)))) → MarkRuns (machines F X.stmts) ws left ws' r
    pub fewer : left_in r ≤ left

  -- a body, whose parts begin at an offset
  pub record MarksWithin (n at : ℕ) (ws : List ℤ) (left : ℕ) (ws' : List ℤ) (r : ℕ) : Type 0 where
    pub runs : (F : Setting s l us ts tb scope calls) (X : FoundBody F.env (body_in n (first (stack_at s at)))) → MarkRuns (serving F X.body) ws left ws' r
    pub fewer : left_in r ≤ left

-- body q of the table, which may call those before it; `calls` is no less than their number
pub record MarksBody (s l us tb : List ℕ) (calls q : ℕ) (ws : List ℤ) (left : ℕ) (ws' : List ℤ) (r : ℕ) : Type 0 where
  pub runs : (places : List ℕ) (bodies : List PlacedBody) (other : PlacedBody) → AllStand s l us tb places bodies other → q < length bodies → q ≤ calls
      → MarkRuns (mark_body (get_or bodies q other) (procs_of other bodies q)) ws left ws' r
  pub fewer : left_in r ≤ left
