-- One pass over a statement or a body: its answer for rows 6 to 8 from the answers for its parts.
use mathlib.Core.Path.{◌≡◌, refl, ap, ◌∙◌}
use mathlib.Core.Bool.{Bool, true, false, not, ◌&&◌, and_assoc}
use mathlib.Core.List.{List, [], ◌∷◌}
use mathlib.Core.Option.{Option, none, some}
use Prim.Native.Nat.{ℕ}
use lib.Dec.{eqb}
use lib.ListN.{length}
use Rattle.law.specs.Base.{Name, ◌>>=◌, both, find, given, each}
use Rattle.law.specs.Syntax as Syntax
use Rattle.law.specs.Types.{Types, info_at, Vars, Var, variable, host_of, ordinal?}
use Rattle.law.specs.Script.{Expr, Target, var, Stmt, assign, begin, if_else, while, for, case, call, raise, ◌next◌, else_arm, arm}
use Rattle.law.specs.Environment.{Environment}
use Rattle.law.specs.Names.{as_proc, var_of, constant_of, expr_of, exprs_of, target_of, stmt_of, stmts_of, arms_of, body_of}
use Rattle.law.specs.Code.{Act, sequence, branch_on, while_loop, for_loop, case_of, call_to, raise_with, ◌also◌, else_case, one_case, Frame}
use Rattle.law.specs.Elaborate.{Elaborated, Located, elab_expr, elab_target, expects, assigning, elab_arguments, elab_labels, elab_stmt, elab_stmts, elab_arms, elab_body}
use Rattle.law.specs.Rules.{plain_expr, plain_exprs, how_many, plain_target, all_plain, steers, looping, differ, labels_of, kept_stmt, kept_stmts, kept_arms, kept_body}
use Rattle.rule_stages.specs.Stages.{Staged, named, staged, join, or_unfit, on_fits, selected, kept_if, unknown, arguments_staged, expr_staged, target_name, target_staged, wanted_staged, assigned_staged, stmt_staged, stmts_staged, labels_staged, arms_staged, cases_staged, body_staged}
use Rattle.rule_stages.proofs.Staging.{bind-map, pair, staged-two, staged-three, staged-one, staged-unknown, staged-kept, kept-ruled, staged-selected}

-- ---- binding

some-bind : {A B : Type 0} (a : A) (f : A → Option B) → (some a >>= f) ≡ f a
unfolding ◌>>=◌
some-bind a f = refl

-- ---- tests in another order

swap : (a b c : Bool) → ((a && b) && c) ≡ ((a && c) && b)
swap true true c = and-true c
  where
    and-true : (c : Bool) → c ≡ (c && true)
    and-true true = refl
    and-true false = refl
swap true false true = refl
swap true false false = refl
swap false b c = refl

module _ (σ : Environment) (js : List ℕ) where
  abbrev Γ : Types
  Γ = σ.types

  abbrev Δ : Vars
  Δ = σ.vars

  abbrev S : Option Syntax.Stmt → Staged Act
  S o = stmt_staged σ js o

  -- ---- one part

  pub raise-staged : (n : ℕ) (e : Option Syntax.Expr) → S (e >>= λ x. some (Syntax.raise n x)) ≡ on_fits (wanted_staged σ 0 e) λ c. or_unfit (some (raise_with n c))
  unfolding stmt_staged wanted_staged stmt_of kept_stmt elab_stmt
  raise-staged n e =
      staged-one (expr_of σ) plain_expr (expects Γ Δ 0) (stmt_of σ) (λ s. kept_stmt s js) (elab_stmt Γ Δ)
      (Syntax.raise n) (raise n) _ (λ x. refl) (λ x. refl) (λ x. refl) e

  pub begin-staged : (n : ℕ) (ss : Option Syntax.Stmts) → S (ss >>= λ x. some (Syntax.begin n x)) ≡ on_fits (stmts_staged σ js ss) λ bs. or_unfit (some (sequence n bs))
  unfolding stmt_staged stmts_staged stmt_of kept_stmt elab_stmt
  begin-staged n ss =
      staged-one (stmts_of σ) (λ s. kept_stmts s js) (elab_stmts Γ Δ) (stmt_of σ) (λ s. kept_stmt s js) (elab_stmt Γ Δ)
      (Syntax.begin n) (begin n) _ (λ x. refl) (λ x. refl) (λ x. refl) ss

  -- ---- `call`: its procedure is known, and then its arguments are those parameters'

  module _ (n : ℕ) (w : Name) where
    pub call-staged : (p : ℕ) (ts : List ℕ) → (find σ.names w >>= as_proc) ≡ some (p, ts) → (es : Option Syntax.Exprs) → S (es >>= λ x. some (Syntax.call n w x))
        ≡ on_fits (arguments_staged σ ts es) λ cs. or_unfit (some (call_to n p cs))
    unfolding stmt_staged arguments_staged stmt_of kept_stmt elab_stmt
    call-staged p ts h es =
        staged-one (exprs_of σ) (λ es. plain_exprs es && eqb (how_many es) (length ts)) (elab_arguments Γ Δ ts) (stmt_of σ) (λ s. kept_stmt s js) (elab_stmt Γ Δ)
        (Syntax.call n w) (call n p ts) _ (λ x. rw h (some-bind (pair p ts) _)) (λ x. refl) (λ x. refl) es

    pub call-unknown : (find σ.names w >>= as_proc) ≡ none → (ts : List ℕ) (es : Option Syntax.Exprs) → S (es >>= λ x. some (Syntax.call n w x)) ≡ unknown (arguments_staged σ ts es)
    unfolding stmt_staged arguments_staged stmt_of ◌>>=◌
    call-unknown h ts es =
        staged-unknown (exprs_of σ) (λ es. plain_exprs es && eqb (how_many es) (length ts)) (elab_arguments Γ Δ ts) (stmt_of σ) (λ s. kept_stmt s js) (elab_stmt Γ Δ) (Syntax.call n w) (λ x. rw h) es

  -- ---- two parts

  pub while-staged : (n : ℕ) (e : Option Syntax.Expr) (a : Option Syntax.Stmt) → S (e >>= λ x. a >>= λ y. some (Syntax.while n x y))
      ≡ join (wanted_staged σ 1 e) (S a) λ c x. or_unfit (some (while_loop n c x))
  unfolding stmt_staged wanted_staged stmt_of kept_stmt elab_stmt
  while-staged n e a =
      staged-two (expr_of σ) plain_expr (expects Γ Δ 1) (stmt_of σ) (λ s. kept_stmt s js) (elab_stmt Γ Δ) (stmt_of σ) (λ s. kept_stmt s js) (elab_stmt Γ Δ)
      (Syntax.while n) (while n) _ (λ x y. refl) (λ x y. refl) (λ x y. refl) e a

  pub stmts-staged : (s : Option Syntax.Stmt) (ss : Option Syntax.Stmts) → stmts_staged σ js (s >>= λ x. ss >>= λ y. some (Syntax.◌next◌ x y))
      ≡ join (S s) (stmts_staged σ js ss) λ x y. or_unfit (some (x also y))
  unfolding stmt_staged stmts_staged stmts_of kept_stmts elab_stmts
  stmts-staged s ss =
      staged-two (stmt_of σ) (λ s. kept_stmt s js) (elab_stmt Γ Δ) (stmts_of σ) (λ s. kept_stmts s js) (elab_stmts Γ Δ) (stmts_of σ) (λ s. kept_stmts s js) (elab_stmts Γ Δ)
      Syntax.◌next◌ ◌next◌ _ (λ x y. refl) (λ x y. refl) (λ x y. refl) s ss

  -- an assignment: the value's kind is the target's host
  assign-kinds : (n : ℕ) (g : Target) (e : Expr) → elab_stmt Γ Δ (assign n g e)
      ≡ both (elab_target Γ Δ g) (elab_expr Γ Δ e) λ w x. given (eqb (host_of Γ w.type) x.kind) x.code >>= λ c. some (assigning Γ Δ n w c)
  unfolding elab_stmt expects both ◌>>=◌
  assign-kinds n g e = go (elab_target Γ Δ g) (elab_expr Γ Δ e)
    where
      go : (u : Option Located) (v : Option Elaborated)
          → (u >>= λ w. (v >>= λ x. given (eqb (host_of Γ w.type) x.kind) x.code) >>= λ c. some (assigning Γ Δ n w c))
          ≡ both u v λ w x. given (eqb (host_of Γ w.type) x.kind) x.code >>= λ c. some (assigning Γ Δ n w c)
      go none v = refl
      go (some w) none = refl
      go (some w) (some x) = refl

  pub assign-staged : (n : ℕ) (g : Option Syntax.Target) (e : Option Syntax.Expr) → S (g >>= λ x. e >>= λ y. some (Syntax.assign n x y))
      ≡ join (assigned_staged σ js g) (expr_staged σ e) λ w x. or_unfit (given (eqb (host_of Γ w.type) x.kind) x.code >>= λ c. some (assigning Γ Δ n w c))
  unfolding stmt_staged assigned_staged expr_staged target_name stmt_of kept_stmt
  assign-staged n g e =
      staged-two (target_name σ) (λ g. plain_target g && not (steers g js)) (elab_target Γ Δ) (expr_of σ) plain_expr (elab_expr Γ Δ) (stmt_of σ) (λ s. kept_stmt s js) (elab_stmt Γ Δ)
      (Syntax.assign n) (assign n) _ (λ x y. bind-map (target_of σ x) (λ r. r.target) (λ u. expr_of σ y >>= λ v. some (assign n u v))) (λ x y. swap (plain_target x) (plain_expr y) (not (steers x js))) (assign-kinds n) g e

  -- a target of several parts steers no loop; a whole variable steers the loop whose control variable it is
  pub assigned-part : (g : Option Syntax.Target) → ((x : Syntax.Target) (t : Target) → g ≡ some x → target_name σ x ≡ some t → steers t js ≡ false) → assigned_staged σ js g ≡ target_staged σ g
  unfolding assigned_staged target_staged staged named
  assigned-part none h = refl
  assigned-part (some x) h = go (target_name σ x) refl
    where
      and-not : (b : Bool) → (b && not false) ≡ b
      and-not true = refl
      and-not false = refl

      go : (u : Option Target) → target_name σ x ≡ u → named u (λ g. plain_target g && not (steers g js)) (elab_target Γ Δ) ≡ named u plain_target (elab_target Γ Δ)
      go none e = refl
      go (some t) e = rw (h x t refl e, and-not (plain_target t))

  pub assigned-var : (w : Name) (i : ℕ) → target_name σ (Syntax.var w) ≡ some (var i) → assigned_staged σ js (some (Syntax.var w)) ≡ kept_if (not (looping i js)) (target_staged σ (some (Syntax.var w)))
  unfolding assigned_staged target_staged staged named
  assigned-var w i h = rw h (kept-ruled (plain_target (var i)) (not (looping i js)) (elab_target Γ Δ (var i)))

  -- ---- three parts

  pub if-staged : (n : ℕ) (e : Option Syntax.Expr) (a b : Option Syntax.Stmt) → S (e >>= λ x. a >>= λ y. b >>= λ z. some (Syntax.if_else n x y z))
      ≡ join (join (wanted_staged σ 1 e) (S a) λ c x. or_unfit (some (pair c x))) (S b) λ p y. or_unfit (some (branch_on n p.0 p.1 y))
  unfolding stmt_staged wanted_staged stmt_of kept_stmt elab_stmt
  if-staged n e a b =
      staged-three (expr_of σ) plain_expr (expects Γ Δ 1) (stmt_of σ) (λ s. kept_stmt s js) (elab_stmt Γ Δ) (stmt_of σ) (λ s. kept_stmt s js) (elab_stmt Γ Δ)
      (stmt_of σ) (λ s. kept_stmt s js) (elab_stmt Γ Δ) (Syntax.if_else n) (if_else n) (λ c x y. some (branch_on n c x y)) (λ x y z. refl) (λ x y z. refl) (λ x y z. refl) e a b

  -- the arms of a case
  pub arm-staged : (k : ℕ) (ls : Option (List Syntax.Constant)) (a : Option Syntax.Stmt) (bs : Option Syntax.Arms) → arms_staged σ js k (ls >>= λ x. a >>= λ y. bs >>= λ z. some (Syntax.arm x y z))
      ≡ join (join (labels_staged σ k ls) (S a) λ zs x. or_unfit (some (pair zs x))) (arms_staged σ js k bs) λ p y. or_unfit (some (one_case p.0 p.1 y))
  unfolding stmt_staged labels_staged arms_staged arms_of kept_arms elab_arms
  arm-staged k ls a bs =
      staged-three (each (constant_of σ)) all_plain (elab_labels Γ Δ k) (stmt_of σ) (λ s. kept_stmt s js) (elab_stmt Γ Δ) (arms_of σ) (λ s. kept_arms s js) (elab_arms Γ Δ k)
      (arms_of σ) (λ s. kept_arms s js) (elab_arms Γ Δ k) Syntax.arm arm (λ zs x y. some (one_case zs x y)) (λ x y z. refl) (λ x y z. refl) (λ x y z. refl) ls a bs

  pub else-staged : (k : ℕ) (a : Option Syntax.Stmt) → arms_staged σ js k (a >>= λ x. some (Syntax.else_arm x)) ≡ on_fits (S a) λ x. or_unfit (some (else_case x))
  unfolding stmt_staged arms_staged arms_of kept_arms elab_arms
  else-staged k a =
      staged-one (stmt_of σ) (λ s. kept_stmt s js) (elab_stmt Γ Δ) (arms_of σ) (λ s. kept_arms s js) (elab_arms Γ Δ k)
      Syntax.else_arm else_arm _ (λ x. refl) (λ x. refl) (λ x. refl) a

  -- ---- `for`: its control variable is known, then ordinal, and of no loop around

  module _ (n : ℕ) (w : Name) (i : ℕ) (v : Var) (hi : var_of σ w ≡ some i) (hv : variable Δ i ≡ some v) where
    for-names : (a b : Syntax.Expr) (s : Syntax.Stmt) → stmt_of σ (Syntax.for n w a b s) ≡ (expr_of σ a >>= λ x. expr_of σ b >>= λ y. stmt_of σ s >>= λ z. some (for n i x y z))
    unfolding stmt_of ◌>>=◌
    for-names a b s = rw hi

    for-kinds : (x y : Expr) (z : Stmt) → elab_stmt Γ Δ (for n i x y z)
        ≡ both (expects Γ Δ (host_of Γ v.type) x) (expects Γ Δ (host_of Γ v.type) y) λ c d. elab_stmt Γ Δ z >>= λ a.
        given (ordinal? Γ v.type) (for_loop n v.base (info_at Γ v.type).low (info_at Γ v.type).high c d a)
    unfolding elab_stmt ◌>>=◌
    for-kinds x y z = rw hv

    -- the three parts by themselves
    abbrev Parts : Type 0
    Parts = (Syntax.Expr × Syntax.Expr) × Syntax.Stmt

    abbrev Named : Type 0
    Named = (Expr × Expr) × Stmt

    abbrev names₃ : Parts → Option Named
    names₃ p = expr_of σ p.0.0 >>= λ x. expr_of σ p.0.1 >>= λ y. stmt_of σ p.1 >>= λ z. some (pair (pair x y) z)

    abbrev rules₃ : Named → Bool
    rules₃ q = (plain_expr q.0.0 && plain_expr q.0.1) && kept_stmt q.1 (i ∷ js)

    abbrev kinds₃ : Named → Option Act
    kinds₃ q = elab_stmt Γ Δ (for n i q.0.0 q.0.1 q.1)

    for-parse : (a b : Option Syntax.Expr) (s : Option Syntax.Stmt) → (a >>= λ x. b >>= λ y. s >>= λ z. some (Syntax.for n w x y z))
        ≡ ((a >>= λ x. b >>= λ y. s >>= λ z. some (pair (pair x y) z)) >>= λ p. some (Syntax.for n w p.0.0 p.0.1 p.1))
    unfolding ◌>>=◌
    for-parse none b s = refl
    for-parse (some x) none s = refl
    for-parse (some x) (some y) none = refl
    for-parse (some x) (some y) (some z) = refl

    for-map : (u v : Option Expr) (t : Option Stmt) → (u >>= λ x. v >>= λ y. t >>= λ z. some (for n i x y z))
        ≡ ((u >>= λ x. v >>= λ y. t >>= λ z. some (pair (pair x y) z)) >>= λ q. some (for n i q.0.0 q.0.1 q.1))
    unfolding ◌>>=◌
    for-map none v t = refl
    for-map (some x) none t = refl
    for-map (some x) (some y) none = refl
    for-map (some x) (some y) (some z) = refl

    pub for-staged : (a b : Option Syntax.Expr) (s : Option Syntax.Stmt) → S (a >>= λ x. b >>= λ y. s >>= λ z. some (Syntax.for n w x y z))
        ≡ kept_if (not (looping i js)) (join (join (wanted_staged σ (host_of Γ v.type) a) (wanted_staged σ (host_of Γ v.type) b) λ c d. or_unfit (some (pair c d)))
        (stmt_staged σ (i ∷ js) s) λ p x. or_unfit (given (ordinal? Γ v.type) (for_loop n v.base (info_at Γ v.type).low (info_at Γ v.type).high p.0 p.1 x)))
    unfolding stmt_staged wanted_staged kept_stmt
    for-staged a b s =
        ap (λ (o : Option Syntax.Stmt). staged o (stmt_of σ) (λ s. kept_stmt s js) (elab_stmt Γ Δ)) (for-parse a b s)
        ∙ staged-kept names₃ rules₃ (stmt_of σ) (λ s. kept_stmt s js) (elab_stmt Γ Δ) (λ p. Syntax.for n w p.0.0 p.0.1 p.1) (λ q. for n i q.0.0 q.0.1 q.1)
        (not (looping i js)) (λ p. for-names p.0.0 p.0.1 p.1 ∙ for-map (expr_of σ p.0.0) (expr_of σ p.0.1) (stmt_of σ p.1))
        (λ q. swap (plain_expr q.0.0 && plain_expr q.0.1) (not (looping i js)) (kept_stmt q.1 (i ∷ js))) _
        ∙ ap (kept_if (not (looping i js)))
        (staged-three (expr_of σ) plain_expr (expects Γ Δ (host_of Γ v.type)) (expr_of σ) plain_expr (expects Γ Δ (host_of Γ v.type))
        (stmt_of σ) (λ s. kept_stmt s (i ∷ js)) (elab_stmt Γ Δ) names₃ rules₃ kinds₃ (λ x y z. pair (pair x y) z) (λ x y z. pair (pair x y) z)
        (λ c d x. given (ordinal? Γ v.type) (for_loop n v.base (info_at Γ v.type).low (info_at Γ v.type).high c d x))
        (λ x y z. refl) (λ x y z. refl) for-kinds a b s)

  -- ---- `case`: the labels' kind is the selector's

  pub case-staged : (n : ℕ) (e : Option Syntax.Expr) (bs : Option Syntax.Arms) → S (e >>= λ x. bs >>= λ y. some (Syntax.case n x y))
      ≡ selected (expr_staged σ e) (λ k. cases_staged σ js k bs) λ x cs. or_unfit (given (ordinal? Γ x.kind) (case_of n x.code cs))
  unfolding stmt_staged expr_staged cases_staged stmt_of kept_stmt elab_stmt
  case-staged n e bs =
      staged-selected (expr_of σ) plain_expr (elab_expr Γ Δ) (arms_of σ) (λ bs. differ (labels_of bs) && kept_arms bs js) (elab_arms Γ Δ)
      (stmt_of σ) (λ s. kept_stmt s js) (elab_stmt Γ Δ) (Syntax.case n) (case n) _ (λ x y. refl) (λ x y. and_assoc (plain_expr x) (differ (labels_of y)) (kept_arms y js)) (λ x y. refl) e bs

-- ---- bodies

pub body-staged : (σ : Environment) (q : Frame) (h : Bool) (a b : Option Syntax.Stmts) → body_staged σ q (a >>= λ x. b >>= λ y. some (record { stmts = x; handles = h; handler = y }))
    ≡ join (stmts_staged σ [] a) (stmts_staged σ [] b) λ x y. or_unfit (some (record { frame = q; acts = x; handles = h; handler = y }))
unfolding body_staged stmts_staged body_of kept_body elab_body
body-staged σ q h a b =
    staged-two (stmts_of σ) (λ s. kept_stmts s []) (elab_stmts σ.types σ.vars) (stmts_of σ) (λ s. kept_stmts s []) (elab_stmts σ.types σ.vars)
    (body_of σ) kept_body (elab_body σ.types σ.vars q) (λ x y. record { stmts = x; handles = h; handler = y }) (λ x y. record { stmts = x; handles = h; handler = y }) _
    (λ x y. refl) (λ x y. refl) (λ x y. refl) a b
