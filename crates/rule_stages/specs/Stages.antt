-- Rows 6 to 8 of a part of a line as one answer: the lowest row that finds a fault in it, or what it elaborates to. The checker walks a line
-- once; the laws in proofs, OnePass, say how the answer for a form follows from the answers for its parts.
use Rattle.std.specs.Prelude.{Bool, true, false, not, ◌&&◌, List, ℕ, eqb, ℤ, length}
use Rattle.std.proofs.Math.Option.{Option, none, some}
use Rattle.law.specs.Base.{◌>>=◌, each}
use Rattle.law.specs.Syntax as Syntax
use Rattle.law.specs.Script.{Target}
use Rattle.law.specs.Environment.{Environment}
use Rattle.law.specs.Names.{Reached, expr_of, target_of, exprs_of, constant_of, stmt_of, stmts_of, arms_of, body_of}
use Rattle.law.specs.Code.{Code, Codes, Act, Acts, Cases, Frame, BodyCode}
use Rattle.law.specs.Elaborate.{Elaborated, Located, elab_expr, elab_target, elab_members, expects, elab_labels, elab_arguments, elab_stmt, elab_stmts, elab_arms, elab_body}
use Rattle.law.specs.Rules.{steers, all_plain, differ, labels_of, plain_expr, plain_target, plain_exprs, how_many, kept_stmt, kept_stmts, kept_arms, kept_body}

-- a fault of row 6 (`wrong`), 7 (`unnamed`) or 8 (`unfit`), or no fault
pub data Staged (A : Type 0) : Type 0 where
  wrong unnamed unfit : Staged A
  fits : A → Staged A

-- row 8: the rules beside kinds, then the kinds
unfoldable pub ruled : {A : Type 0} → Bool → Option A → Staged A
ruled false o = unfit
ruled true none = unfit
ruled true (some a) = fits a

unfoldable pub named : {B C : Type 0} → Option B → (B → Bool) → (B → Option C) → Staged C
named none rules kinds = unnamed
named (some b) rules kinds = ruled (rules b) (kinds b)

-- the three stages: a form or none, its names, the rules and kinds
unfoldable pub staged : {A B C : Type 0} → Option A → (A → Option B) → (B → Bool) → (B → Option C) → Staged C
staged none names rules kinds = wrong
staged (some a) names rules kinds = named (names a) rules kinds

-- two parts: the lower row wins; with no fault in either, what they give together
unfoldable pub join : {A B C : Type 0} → Staged A → Staged B → (A → B → Staged C) → Staged C
join wrong y f = wrong
join unnamed wrong f = wrong
join unnamed unnamed f = unnamed
join unnamed unfit f = unnamed
join unnamed (fits b) f = unnamed
join unfit wrong f = wrong
join unfit unnamed f = unnamed
join unfit unfit f = unfit
join unfit (fits b) f = unfit
join (fits a) wrong f = wrong
join (fits a) unnamed f = unnamed
join (fits a) unfit f = unfit
join (fits a) (fits b) f = f a b

-- what may not fit is row 8
unfoldable pub or_unfit : {A : Type 0} → Option A → Staged A
or_unfit none = unfit
or_unfit (some a) = fits a

unfoldable pub on_fits : {A B : Type 0} → Staged A → (A → Staged B) → Staged B
on_fits wrong f = wrong
on_fits unnamed f = unnamed
on_fits unfit f = unfit
on_fits (fits a) f = f a

-- a part, and one that depends on the first part's kind
unfoldable pub selected : {B C : Type 0} → Staged Elaborated → (ℕ → Staged B) → (Elaborated → B → Staged C) → Staged C
selected wrong f g = wrong
selected unnamed f g = join unnamed (f 0) g
selected unfit f g = join unfit (f 0) g
selected (fits x) f g = on_fits (f x.kind) (g x)

-- one more rule of row 8
unfoldable pub kept_if : {A : Type 0} → Bool → Staged A → Staged A
kept_if t wrong = wrong
kept_if t unnamed = unnamed
kept_if t unfit = unfit
kept_if true (fits a) = fits a
kept_if false (fits a) = unfit

-- one more name that is not known
unfoldable pub unknown : {A B : Type 0} → Staged A → Staged B
unknown wrong = wrong
unknown unnamed = unnamed
unknown unfit = unnamed
unknown (fits a) = unnamed

-- a field: row 7 where a known record has none of that name, whatever row 8 says of the target
unfoldable pub dotted : {A B : Type 0} → Option A → Staged B → (B → Option B) → Staged B
dotted none wrong f = wrong
dotted none unnamed f = unnamed
dotted none unfit f = unnamed
dotted none (fits b) f = unnamed
dotted (some a) s f = on_fits s (λ b. or_unfit (f b))

-- ---- the parts of a body. js are the control variables of the loops around

module _ (σ : Environment) where
  unfoldable pub expr_staged : Option Syntax.Expr → Staged Elaborated
  expr_staged o = staged o (expr_of σ) plain_expr (elab_expr σ.types σ.vars)

  -- a target's type where its names are known, which does not depend on its indices (row 7 of `dot` asks for it)
  unfoldable pub target_name : Syntax.Target → Option Target
  target_name g = target_of σ g >>= λ r. some r.target

  unfoldable pub type_by : Option Reached → Option ℕ
  type_by none = none
  type_by (some r) = r.type

  unfoldable pub target_type : Option Syntax.Target → Option ℕ
  target_type none = none
  target_type (some g) = type_by (target_of σ g)

  unfoldable pub target_staged : Option Syntax.Target → Staged Located
  target_staged o = staged o target_name plain_target (elab_target σ.types σ.vars)

  unfoldable pub members_staged : ℕ → Option Syntax.Exprs → Staged Codes
  members_staged k o = staged o (exprs_of σ) plain_exprs (elab_members σ.types σ.vars k)

  -- an expression of a kind that is wanted
  unfoldable pub wanted_staged : ℕ → Option Syntax.Expr → Staged Code
  wanted_staged k o = staged o (expr_of σ) plain_expr (expects σ.types σ.vars k)

  -- the arguments of a call, for parameters of these types
  unfoldable pub arguments_staged : List ℕ → Option Syntax.Exprs → Staged Codes
  arguments_staged ts o = staged o (exprs_of σ) (λ es. plain_exprs es && eqb (how_many es) (length ts)) (elab_arguments σ.types σ.vars ts)

  -- a target that is assigned
  unfoldable pub assigned_staged : List ℕ → Option Syntax.Target → Staged Located
  assigned_staged js o = staged o target_name (λ g. plain_target g && not (steers g js)) (elab_target σ.types σ.vars)

  unfoldable pub stmt_staged : List ℕ → Option Syntax.Stmt → Staged Act
  stmt_staged js o = staged o (stmt_of σ) (λ s. kept_stmt s js) (elab_stmt σ.types σ.vars)

  unfoldable pub stmts_staged : List ℕ → Option Syntax.Stmts → Staged Acts
  stmts_staged js o = staged o (stmts_of σ) (λ s. kept_stmts s js) (elab_stmts σ.types σ.vars)

  unfoldable pub labels_staged : ℕ → Option (List Syntax.Constant) → Staged (List ℤ)
  labels_staged k o = staged o (each (constant_of σ)) all_plain (elab_labels σ.types σ.vars k)

  -- the arms of a case whose selector has kind k
  unfoldable pub arms_staged : List ℕ → ℕ → Option Syntax.Arms → Staged Cases
  arms_staged js k o = staged o (arms_of σ) (λ bs. kept_arms bs js) (elab_arms σ.types σ.vars k)

  -- and all its labels differ
  unfoldable pub cases_staged : List ℕ → ℕ → Option Syntax.Arms → Staged Cases
  cases_staged js k o = staged o (arms_of σ) (λ bs. differ (labels_of bs) && kept_arms bs js) (elab_arms σ.types σ.vars k)

  -- a body whose parameters have the frame q
  unfoldable pub body_staged : Frame → Option Syntax.Body → Staged BodyCode
  body_staged q o = staged o (body_of σ) kept_body (elab_body σ.types σ.vars q)
