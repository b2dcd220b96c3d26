-- One pass over an expression or a target: its answer for rows 6 to 8 from the answers for its parts.
use mathlib.Core.Path.{◌≡◌, refl, sym, ap, ◌∙◌}
use mathlib.Core.Bool.{Bool, true, false, ◌&&◌, and_assoc}
use mathlib.Core.List.{List, [], ◌∷◌}
use mathlib.Core.Option.{Option, none, some}
use Prim.Native.Nat.compare
use Prim.Native.Nat.{ℕ, suc}
use native.Mathlib.Omega.{arith}
use borrow.Author.Tests.{ne_eqb}
use lib.Dec.{eqb}
use lib.ListN.{length}
use Rattle.law.specs.Base.{Name, ◌>>=◌, both, given}
use Rattle.law.specs.Syntax as Syntax
use Rattle.law.specs.Types.{Types, info_at, Vars, Var, Field, host_of, size_of, set?, array?, record?, base_of, field_of}
use Rattle.law.specs.Operators.{Op, Fun, both_booleans, operator_rule, function_rule}
use Rattle.law.specs.Script.{Expr, read, members, binary, short_circuit, unary, Target, at, dot, Exprs, ◌and◌}
use Rattle.law.specs.Environment.{Environment}
use Rattle.law.specs.Names.{Reached, reached, type_of, element_of, field_in, expr_of, target_of, exprs_of}
use Rattle.law.specs.Code.{Code, Codes, load, make_set, calculate, short_cut, calculate1, no_codes, ◌with◌, index, shift}
use Rattle.law.specs.Elaborate.{Elaborated, elaborated, Located, located, elab_expr, elab_target, elab_members, elab_arguments, expects}
use Rattle.law.specs.Rules.{plain_expr, plain_target, plain_exprs, how_many}
use Rattle.rule_stages.specs.Stages.{unnamed, unfit, fits, ruled, named, staged, join, or_unfit, on_fits, unknown, dotted, expr_staged, target_name, type_by, target_type, target_staged, members_staged, arguments_staged, wanted_staged}
use Rattle.rule_stages.proofs.Staging.{bind-map, staged-unknown, staged-two, staged-never, staged-one, staged-then, one-ruled}
use Rattle.law_theorems.proofs.Inversion.{none-some, some_inj, bind-some, both_some, given-some, and-true}

-- ---- binding

some-bind : {A B : Type 0} (a : A) (f : A → Option B) → (some a >>= f) ≡ f a
unfolding ◌>>=◌
some-bind a f = refl

module _ (σ : Environment) where
  abbrev Γ : Types
  Γ = σ.types

  abbrev Δ : Vars
  Δ = σ.vars

  -- ---- expressions

  pub binary-staged : (op : Op) (a b : Option Syntax.Expr) → expr_staged σ (a >>= λ x. b >>= λ y. some (Syntax.binary op x y))
      ≡ join (expr_staged σ a) (expr_staged σ b) λ x y. or_unfit (operator_rule Γ op x.kind y.kind >>= λ r. some (elaborated r.kind (calculate r.operation x.code y.code)))
  unfolding expr_staged expr_of plain_expr elab_expr
  binary-staged op a b =
      staged-two (expr_of σ) plain_expr (elab_expr Γ Δ) (expr_of σ) plain_expr (elab_expr Γ Δ) (expr_of σ) plain_expr (elab_expr Γ Δ)
      (Syntax.binary op) (binary op) _ (λ x y. refl) (λ x y. refl) (λ x y. refl) a b

  pub short-staged : (q : Bool) (a b : Option Syntax.Expr) → expr_staged σ (a >>= λ x. b >>= λ y. some (Syntax.short_circuit q x y))
      ≡ join (expr_staged σ a) (expr_staged σ b) λ x y. or_unfit (given (both_booleans x.kind y.kind) (elaborated 1 (short_cut q x.code y.code)))
  unfolding expr_staged expr_of plain_expr elab_expr
  short-staged q a b =
      staged-two (expr_of σ) plain_expr (elab_expr Γ Δ) (expr_of σ) plain_expr (elab_expr Γ Δ) (expr_of σ) plain_expr (elab_expr Γ Δ)
      (Syntax.short_circuit q) (short_circuit q) _ (λ x y. refl) (λ x y. refl) (λ x y. refl) a b

  pub unary-staged : (f : Fun) (a : Option Syntax.Expr) → expr_staged σ (a >>= λ x. some (Syntax.unary f x))
      ≡ on_fits (expr_staged σ a) λ x. or_unfit (function_rule Γ f x.kind >>= λ r. some (elaborated r.kind (calculate1 r.operation x.code)))
  unfolding expr_staged expr_of plain_expr elab_expr
  unary-staged f a =
      staged-one (expr_of σ) plain_expr (elab_expr Γ Δ) (expr_of σ) plain_expr (elab_expr Γ Δ)
      (Syntax.unary f) (unary f) _ (λ x. refl) (λ x. refl) (λ x. refl) a

  -- reading a target
  pub read-staged : (g : Option Syntax.Target) → expr_staged σ (g >>= λ x. some (Syntax.read x))
      ≡ on_fits (target_staged σ g) λ w. or_unfit (some (elaborated (host_of Γ w.type) (load w.place (size_of Γ w.type))))
  unfolding expr_staged target_staged target_name expr_of plain_expr elab_expr
  read-staged g =
      staged-one (target_name σ) plain_target (elab_target Γ Δ) (expr_of σ) plain_expr (elab_expr Γ Δ)
      Syntax.read read _ (λ x. bind-map (target_of σ x) (λ r. r.target) (λ g. some (read g))) (λ x. refl) (λ x. refl) g

  -- `(members T E..)`
  pub members-staged : (t : Syntax.TypeName) (k : ℕ) → type_of σ t ≡ some k → (es : Option Syntax.Exprs) → expr_staged σ (es >>= λ x. some (Syntax.members t x))
      ≡ on_fits (members_staged σ (base_of Γ k) es) λ cs. or_unfit (given (set? Γ k) (elaborated k (make_set (info_at Γ k).low (info_at Γ k).high cs)))
  unfolding expr_staged members_staged expr_of plain_expr elab_expr
  members-staged t k h es =
      staged-one (exprs_of σ) plain_exprs (elab_members Γ Δ (base_of Γ k)) (expr_of σ) plain_expr (elab_expr Γ Δ)
      (Syntax.members t) (members k) _ (λ x. rw h (some-bind k _)) (λ x. refl) (λ x. refl) es

  pub members-unknown : (t : Syntax.TypeName) → type_of σ t ≡ none → (k : ℕ) (es : Option Syntax.Exprs) → expr_staged σ (es >>= λ x. some (Syntax.members t x)) ≡ unknown (members_staged σ k es)
  unfolding expr_staged members_staged expr_of ◌>>=◌
  members-unknown t h k es = staged-unknown (exprs_of σ) plain_exprs (elab_members Γ Δ k) (expr_of σ) plain_expr (elab_expr Γ Δ) (Syntax.members t) (λ x. rw h) es

  pub member-staged : (k : ℕ) (e : Option Syntax.Expr) (es : Option Syntax.Exprs) → members_staged σ k (e >>= λ x. es >>= λ y. some (Syntax.◌and◌ x y))
      ≡ join (expr_staged σ e) (members_staged σ k es) λ x cs. or_unfit (given (eqb k x.kind) (x.code with cs))
  unfolding expr_staged members_staged exprs_of plain_exprs elab_members
  member-staged k e es =
      staged-two (expr_of σ) plain_expr (elab_expr Γ Δ) (exprs_of σ) plain_exprs (elab_members Γ Δ k) (exprs_of σ) plain_exprs (elab_members Γ Δ k)
      Syntax.◌and◌ ◌and◌ _ (λ x y. refl) (λ x y. refl) (λ x y. refl) e es

  -- an expression of a kind that is wanted
  pub wanted-staged : (k : ℕ) (e : Option Syntax.Expr) → wanted_staged σ k e
      ≡ on_fits (expr_staged σ e) λ x. or_unfit (given (eqb k x.kind) x.code)
  unfolding wanted_staged expr_staged expects
  wanted-staged k e = staged-then (expr_of σ) plain_expr (elab_expr Γ Δ) (λ x. given (eqb k x.kind) x.code) e

  -- ---- arguments

  abbrev counted : List ℕ → Exprs → Bool
  counted ts es = plain_exprs es && eqb (how_many es) (length ts)

  argument-kinds : (t : ℕ) (ts : List ℕ) (e : Expr) (es : Exprs) → elab_arguments Γ Δ (t ∷ ts) (e and es)
      ≡ both (elab_expr Γ Δ e) (elab_arguments Γ Δ ts es) λ x cs. given (eqb (host_of Γ t) x.kind) (x.code with cs)
  unfolding elab_arguments expects both given ◌>>=◌
  argument-kinds t ts e es = go (elab_expr Γ Δ e) (elab_arguments Γ Δ ts es)
    where
      of : (b : Bool) (c : Code) (v : Option Codes) → both (given b c) v (λ c cs. some (c with cs)) ≡ both (some c) v λ c cs. given b (c with cs)
      of true c none = refl
      of true c (some cs) = refl
      of false c none = refl
      of false c (some cs) = refl

      go : (u : Option Elaborated) (v : Option Codes) → both (u >>= λ x. given (eqb (host_of Γ t) x.kind) x.code) v (λ c cs. some (c with cs))
          ≡ both u v λ x cs. given (eqb (host_of Γ t) x.kind) (x.code with cs)
      go none v = refl
      go (some x) none = of (eqb (host_of Γ t) x.kind) x.code none
      go (some x) (some cs) = of (eqb (host_of Γ t) x.kind) x.code (some cs)

  pub argument-staged : (t : ℕ) (ts : List ℕ) (e : Option Syntax.Expr) (es : Option Syntax.Exprs) → arguments_staged σ (t ∷ ts) (e >>= λ x. es >>= λ y. some (Syntax.◌and◌ x y))
      ≡ join (expr_staged σ e) (arguments_staged σ ts es) λ x cs. or_unfit (given (eqb (host_of Γ t) x.kind) (x.code with cs))
  unfolding expr_staged arguments_staged exprs_of plain_exprs how_many
  argument-staged t ts e es =
      staged-two (expr_of σ) plain_expr (elab_expr Γ Δ) (exprs_of σ) (counted ts) (elab_arguments Γ Δ ts) (exprs_of σ) (counted (t ∷ ts)) (elab_arguments Γ Δ (t ∷ ts))
      Syntax.◌and◌ ◌and◌ _ (λ x y. refl) (λ x y. one_more x y (how_many y) (length ts)) (argument-kinds t ts) e es
    where
      one_more : (x : Expr) (y : Exprs) (n m : ℕ) → ((plain_expr x && plain_exprs y) && eqb (suc n) (suc m)) ≡ (plain_expr x && (plain_exprs y && eqb n m))
      one_more x y n m = rw (compare.suc-suc n m) (and_assoc (plain_expr x) (plain_exprs y) (eqb n m))

  -- past the last parameter
  pub argument-past : (e : Option Syntax.Expr) (es : Option Syntax.Exprs) → arguments_staged σ [] (e >>= λ x. es >>= λ y. some (Syntax.◌and◌ x y))
      ≡ join (expr_staged σ e) (arguments_staged σ [] es) λ x cs. unfit
  unfolding expr_staged arguments_staged exprs_of plain_exprs how_many elab_arguments
  argument-past e es =
      staged-never (expr_of σ) plain_expr (elab_expr Γ Δ) (exprs_of σ) (counted []) (elab_arguments Γ Δ []) (exprs_of σ) (counted []) (elab_arguments Γ Δ [])
      Syntax.◌and◌ ◌and◌ (λ x y. refl) (λ x y. refl) e es

  pub arguments-end : arguments_staged σ [] (some Syntax.nil) ≡ fits no_codes
  unfolding arguments_staged staged named ruled exprs_of plain_exprs how_many elab_arguments
  arguments-end = refl

  pub arguments-few : (t : ℕ) (ts : List ℕ) → arguments_staged σ (t ∷ ts) (some Syntax.nil) ≡ unfit
  unfolding arguments_staged staged named ruled exprs_of plain_exprs how_many elab_arguments
  arguments-few t ts = rw (ne_eqb 0 (suc (length ts)) (λ h. omega arith)) refl

  -- ---- targets

  at_names : (g : Syntax.Target) (e : Syntax.Expr) → target_name σ (Syntax.at g e) ≡ (target_name σ g >>= λ x. expr_of σ e >>= λ y. some (at x y))
  unfolding target_name target_of ◌>>=◌
  at_names g e = go (target_of σ g) (expr_of σ e)
    where
      go : (u : Option Reached) (v : Option Expr)
          → ((u >>= λ r. v >>= λ x. some (reached (at r.target x) (element_of σ r.type))) >>= λ r. some r.target)
          ≡ ((u >>= λ r. some r.target) >>= λ x. v >>= λ y. some (at x y))
      go none v = refl
      go (some r) none = refl
      go (some r) (some x) = refl

  pub at-staged : (g : Option Syntax.Target) (e : Option Syntax.Expr) → target_staged σ (g >>= λ x. e >>= λ y. some (Syntax.at x y))
      ≡ join (target_staged σ g) (expr_staged σ e) λ w x. or_unfit (given (array? Γ w.type && eqb (host_of Γ (info_at Γ w.type).index) x.kind)
      (located (info_at Γ w.type).element (index w.place x.code (info_at Γ w.type).low (info_at Γ w.type).high (size_of Γ (info_at Γ w.type).element))))
  unfolding expr_staged target_staged plain_target elab_target
  at-staged g e =
      staged-two (target_name σ) plain_target (elab_target Γ Δ) (expr_of σ) plain_expr (elab_expr Γ Δ) (target_name σ) plain_target (elab_target Γ Δ)
      Syntax.at at _ at_names (λ x y. refl) (λ x y. refl) g e

  -- `dot`: the type that its target has without regard to indices says whether the field is missing
  pub dot-staged : (g : Option Syntax.Target) (w : Name) → target_staged σ (g >>= λ x. some (Syntax.dot x w))
      ≡ dotted (field_in σ (target_type σ g) w) (target_staged σ g) λ l. field_of (info_at Γ l.type).fields w >>= λ f. some (located f.type (shift l.place f.offset))
  unfolding target_staged target_name target_type type_by staged named ruled dotted target_of plain_target elab_target field_in ◌>>=◌ on_fits
  dot-staged none w = refl
  dot-staged (some g) w = go (target_of σ g)
    where
      step : Located → Option Located
      step l = field_of (info_at Γ l.type).fields w >>= λ f. some (located f.type (shift l.place f.offset))

      known : (t : Target) (v : Option (Option ℕ))
          → named ((v >>= λ ty. some (reached (dot t w) ty)) >>= λ r. some r.target) plain_target (elab_target Γ Δ)
          ≡ dotted v (named (some t) plain_target (elab_target Γ Δ)) step
      known t none = missing (plain_target t) (elab_target Γ Δ t)
        where
          missing : (p : Bool) (u : Option Located) → unnamed ≡ dotted {A = Option ℕ} none (ruled p u) step
          missing false u = refl
          missing true none = refl
          missing true (some l) = refl
      known t (some ty) = one-ruled step (plain_target t) (elab_target Γ Δ t)

      go : (u : Option Reached)
          → named ((u >>= λ r. field_in σ r.type w >>= λ ty. some (reached (dot r.target w) ty)) >>= λ r. some r.target) plain_target (elab_target Γ Δ)
          ≡ dotted (field_in σ (type_by σ u) w) (named (u >>= λ r. some r.target) plain_target (elab_target Γ Δ)) step
      go none = refl
      go (some r) = known r.target (field_in σ r.type w)

  -- ---- the types of targets

  pub at-type : (g : Syntax.Target) (e : Syntax.Expr) (r : Reached) (x : Expr) → target_of σ g ≡ some r → expr_of σ e ≡ some x → target_type σ (some (Syntax.at g e)) ≡ element_of σ r.type
  unfolding target_type type_by target_of ◌>>=◌
  at-type g e r x h k = rw (h, k)

  pub dot-type : (g : Syntax.Target) (w : Name) (r : Reached) (t : Option ℕ) → target_of σ g ≡ some r → field_in σ r.type w ≡ some t → target_type σ (some (Syntax.dot g w)) ≡ t
  unfolding target_type type_by target_of ◌>>=◌
  dot-type g w r t h k = rw (h, k)

  element-known : (t : ℕ) → array? Γ t ≡ true → element_of σ (some t) ≡ some (info_at Γ t).element
  unfolding element_of given
  element-known t h = rw h

  -- what kind of target has no field: no record's type lists any
  module _ (fieldless : (t : ℕ) → record? Γ t ≡ false → (info_at Γ t).fields ≡ []) where
    field-known : (t : ℕ) (n : Name) (f : Field) → field_of (info_at Γ t).fields n ≡ some f → field_in σ (some t) n ≡ some (some f.type)
    unfolding field_in field_of
    field-known t n f h = go (record? Γ t) refl
      where
        none_in : (b : Bool) → record? Γ t ≡ b → b ≡ false → field_of (info_at Γ t).fields n ≡ none
        none_in b e q = rw (fieldless t (e ∙ q))

        go : (b : Bool) → record? Γ t ≡ b → elim b [ false ↦ some none | true ↦ field_of (info_at Γ t).fields n >>= λ f. some (some f.type) ] ≡ some (some f.type)
        go true e = rw (h, some-bind)
        go false e = none-some (sym (none_in false e refl) ∙ h)

    -- a target that fits has the type that its names say
    pub fits-type : (g : Syntax.Target) (r : Reached) (w : Located) → target_of σ g ≡ some r → elab_target Γ Δ r.target ≡ some w → r.type ≡ some w.type
    unfolding target_of elab_target
    fits-type (Syntax.var n) r w h k = bind-some h λ i hi h'. bind-some h' λ v hv e.
        bind-some (rw (← some_inj e) at k) λ u hu e'. rw (← some_inj e) (some_inj (ap some (ap (λ (z : Var). some z.type) (some_inj (sym hv ∙ hu)))) ∙ ap (λ (z : Located). some z.type) (some_inj e'))
    fits-type (Syntax.at g a) r w h k = bind-some h λ q hq h'. bind-some h' λ x hx e.
        both_some (rw (← some_inj e) at k) λ u y hu hy e'. given-some e' λ p v.
        rw (← some_inj e, ← v, fits-type g q u hq hu) (element-known u.type (and-true (array? Γ u.type) _ p).0)
    fits-type (Syntax.dot g n) r w h k = bind-some h λ q hq h'. bind-some h' λ t ht e.
        bind-some (rw (← some_inj e) at k) λ u hu e'. bind-some e' λ f hf e''.
        rw (← some_inj e, ← some_inj e'') (some_inj (sym (rw (fits-type g q u hq hu) at ht) ∙ field-known u.type n f hf))
