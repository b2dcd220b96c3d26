-- The ways through the bounds of a `for`.
use mathlib.Core.Path.{◌≡◌, refl, sym, ap, subst, ◌∙◌}
use mathlib.Core.Bool.{Bool, true, false}
use mathlib.Core.List.{List, map}
use mathlib.Core.Option.{Option, some}
use Prim.Native.Nat.{ℕ, min}
use native.Mathlib.Omega.{arith}
use borrow.Author.Tests.{eq-eqb, ne_eqb}
use borrow.Author.Rules.{sfits_of}
use lib.Dec.{eqb}
use lib.IntN.{ℤ}
use lib.Signed.{lt_z}
use mir.Syntax.{w64}
use mir.Val.{SFits}
use mir.Facts.{to_z-of_z}
use Rattle.leaf_integers.proofs.Machine.{wire}
use Rattle.leaf_bytes.specs.Bytes.{small}
use Rattle.leaf_words.specs.Numbers.{signed}
use Rattle.leaf_words.specs.Words.{word_of}
use Rattle.law.specs.Base as Base
use Rattle.law.specs.Base.{Name}
use Rattle.law.specs.Calculate.{Result, is, stuck, ◌>>=◌}
use Rattle.law.specs.Environment.{Environment, NameSort}
use Rattle.law.specs.Machine.{Store, sole}
use Rattle.law.specs.Marking.{TypedValue, typed_place, mark_bounds, mark_expr, mark_target, or_stuck, require}
use Rattle.law.specs.Names.{as_var, var_of, target_of, reached}
use Rattle.law.specs.Script as Script
use Rattle.law.specs.Syntax as Syntax
use Rattle.law.specs.Trees.{word, form, Trees, end, ◌then◌, Run, first}
use Rattle.law_theorems.specs.Readings.{stack_at}
use Rattle.law.specs.Types.{Types, Var, Vars, variable, info_at, host_of, ordinal?}
use Rattle.law_theorems.proofs.Inversion.{none-some, some_inj, bind-some}
use Rattle.code_calc.specs.Words.{no_result, greatest, Holds}
use Rattle.text_heads.specs.declared.Atom.{Atom}
use Rattle.text_heads.specs.declared.Atom.TheVariants as AT
use Rattle.text_heads.specs.Heads as heads
use Rattle.text_heads.specs.Heads.{atom_name, atom_target}
use Rattle.text_heads.specs.Parts.{part_of, rest, expr_in, name_in, target_in}
use Rattle.text_heads.proofs.Heads.{name-word, target-word}
use Rattle.text_heads.proofs.Expressions.{name-form}
use Rattle.text_skips.specs.Skips.{Skips}
use Rattle.mark_cells.specs.Cells.{Addresses}
use Rattle.table_scope.specs.declared.Scope.{Scope}
use Rattle.table_scope.specs.declared.Info.{Info}
use Rattle.table_scope.specs.declared.Meaning.{Meaning}
use Rattle.table_scope.specs.Descriptions.{info_of}
use Rattle.table_scope.specs.Scene.{Means, a-type, a-var, a-proc, a-value, Told, unknown, known}
use Rattle.table_scope.specs.Sides.{host_in}
use Rattle.table_scope.proofs.Telling.{meant, host-in}
use Rattle.mark_values.specs.declared.values.Carried.{Carried}
use Rattle.mark_values.specs.declared.places.Reached.{Reached}
use Rattle.mark_values.specs.Values.{Carries, Reaches, Known}
use Rattle.mark_values.proofs.Carrying.{broken-bind, carried-broken, carried-value}
use Rattle.mark_values.specs.Carrying.{Broken, by-stuck}
use Rattle.mark_values.proofs.Settling.{low_signed, high-signed, ordinal-yes, ordinal-no}
use Rattle.mark_expressions.specs.Marks.{MarksExpr, MarksTarget}
use Rattle.mark_acts.specs.declared.bounds.Span.{Span}
use Rattle.std.specs.Prelude.{Ok, Err, Result as Held}
use Rattle.mark_acts.specs.Bounds.{Counted, joined, SpanIs, Joins, Bounding}
use Rattle.mark_acts.proofs.Placing.{value-word}
use Rattle.mark_acts.proofs.Acting.{skip-rest, expr-there}

-- ---- `join`

-- the bounds by their tests
bounds-by : (Γ : Types) (Δ : Vars) (c : Var) (u v : TypedValue) (p q o : Bool) → eqb (host_of Γ c.type) u.kind ≡ p → eqb (host_of Γ c.type) v.kind ≡ q → ordinal? Γ c.type ≡ o
    → mark_bounds Γ Δ c u v ≡ (require p (is u.cells) >>= λ a. require q (is v.cells) >>= λ b. require o (is (sole a, sole b)))
unfolding mark_bounds
bounds-by Γ Δ c u v p q o e f g = rw (e, f, g) refl

module _ (l ts : List ℕ) (g : Reached) (x y : Carried) (k : ℕ) (K : k ≡ host_in l ts g.typed) where
  module _ {s : List ℕ} {scope : Scope} {σ : Environment} (S : Known s l ts scope σ) (m : Store) (c : Var) (R : Reaches (is (typed_place c.type c.base)) g) where
    host-is : k ≡ host_of σ.types c.type
    host-is = K ∙ host-in S.scene g.typed ∙ ap (host_of σ.types) (R.type-is (typed_place c.type c.base) refl)

    fits-kind : (z : Carried) (u : TypedValue) → Carries σ.types m (is u) z → k ≡ z.kind → eqb (host_of σ.types c.type) u.kind ≡ true
    fits-kind z u C h = eq-eqb (host_of σ.types c.type) u.kind (sym host-is ∙ h ∙ C.kind-is u refl)

    other-kind : (z : Carried) (u : TypedValue) → Carries σ.types m (is u) z → ((k ≡ z.kind) → ⊥) → eqb (host_of σ.types c.type) u.kind ≡ false
    other-kind z u C h = ne_eqb (host_of σ.types c.type) u.kind (λ e. h (host-is ∙ e ∙ sym (C.kind-is u refl)))

  -- it sticks where the bounds do
  sticks-so : (σ : Environment) (c : Var) (u v : TypedValue) → mark_bounds σ.types σ.vars c u v ≡ stuck
      → SpanIs σ.types (joined σ.types σ.vars c (is u) (is v)) (Err no_result)
  sticks-so σ c u v e = record { says = subst (λ (o : Result (ℤ × ℤ)). Broken {A = Counted} no_result (o >>= λ p. is (c, p))) (sym e) (by-stuck refl) }

  pub join-left : ((k ≡ x.kind) → ⊥) → Joins l ts g x y (Err no_result)
  join-left h = record {
    says = λ s scope σ S m i c hc R u v C D.
        sticks-so σ c u v (bounds-by σ.types σ.vars c u v false (eqb (host_of σ.types c.type) v.kind) (ordinal? σ.types c.type) (other-kind S m c R x u C h) refl refl);
  }

  module _ (h : k ≡ x.kind) where
    pub join-right : ((k ≡ y.kind) → ⊥) → Joins l ts g x y (Err no_result)
    join-right j = record {
      says = λ s scope σ S m i c hc R u v C D.
          sticks-so σ c u v (bounds-by σ.types σ.vars c u v true false (ordinal? σ.types c.type) (fits-kind S m c R x u C h) (other-kind S m c R y v D j) refl);
    }

    module _ (j : k ≡ y.kind) (i : Info) (I : i ≡ info_of l ts g.typed) where
      pub join-shape : ((i.shape ≡ 0) → ⊥) → Joins l ts g x y (Err no_result)
      join-shape t = record {
        says = λ s scope σ S m n c hc R u v C D.
            let o : ordinal? σ.types c.type ≡ false = ap (ordinal? σ.types) (sym (R.type-is (typed_place c.type c.base) refl)) ∙ ordinal-no S g.typed (λ p. t (ap (λ (z : Info). z.shape) I ∙ p)) in
            sticks-so σ c u v (bounds-by σ.types σ.vars c u v true true false (fits-kind S m c R x u C h) (fits-kind S m c R y v D j) o);
      }

      pub join-over : i.shape ≡ 0 → (a : ℕ) (lo hi : ℤ) → Addresses (wire g.word) a → lo ≡ signed i.low → hi ≡ signed i.high
          → SFits w64 g.word → SFits w64 x.word → SFits w64 y.word → SFits w64 lo → SFits w64 hi
          → Joins l ts g x y (Ok (record { cell = a; low = wire lo; high = wire hi; from = wire x.word; to = wire y.word }))
      join-over t a lo hi A L U fg fx fy fl fh = record {
        says = λ s scope σ S m n c hc R u v C D.
            let e : g.typed ≡ c.type = R.type-is (typed_place c.type c.base) refl in
            let o : ordinal? σ.types c.type ≡ true = ap (ordinal? σ.types) (sym e) ∙ ordinal-yes S g.typed (sym (ap (λ (z : Info). z.shape) I) ∙ t) in
            let b = S.scene.cells n c hc in
            let p = value-word C.word-is in
            let q = value-word D.word-is in
            let B = bounds-by σ.types σ.vars c u v true true true (fits-kind S m c R x u C h) (fits-kind S m c R y v D j) o in
            let w = value-word R.word-is in
            record {
              says = rw (to_z-of_z fl, to_z-of_z fh, to_z-of_z fx, to_z-of_z fy, p.0, q.0) (record {
                control = c;
                gives = ap (λ (z : Result (ℤ × ℤ)). z >>= λ d. is (c, d)) B;
                cell = A.says (min c.base 4294967295) (omega arith) (to_z-of_z fg ∙ w.0) ∙ omega (arith, b);
                least-is = L ∙ ap (λ (z : Info). signed z.low) I ∙ low_signed S g.typed ∙ ap (λ (z : ℕ). (info_at σ.types z).low) e;
                most-is = U ∙ ap (λ (z : Info). signed z.high) I ∙ high-signed S g.typed ∙ ap (λ (z : ℕ). (info_at σ.types z).high) e;
                from-ranged = p.1;
                to-ranged = q.1;
              });
            };
      }

pub ruleset join_laws = (join-left, join-right, join-shape, join-over, sfits_of)

-- ---- `bounds`

-- a name that is a variable's, as a target
name-target : (us : Trees Run) (w : Name) → name_in us ≡ some w → target_in 1 us ≡ some (Syntax.var w)
unfolding name_in part_of Base.◌>>=◌
name-target end w h = none-some h
name-target (form vs then ts) w h = none-some (sym (name-form vs ts) ∙ h)
name-target (word v then ts) w h = target-word 0 v ts ∙ go (heads.atom_of (word_of v)) (sym (name-word v ts) ∙ h)
  where
    go : (a : Atom) → atom_name a (map small v) ≡ some w → atom_target a (map small v) ≡ some (Syntax.var w)
    go (AT.Number z) e = none-some e
    go AT.Named e = ap (λ (n : Name). some (Syntax.var n)) (some_inj e)
    go (AT.Truth b) e = none-some e
    go AT.ErrorNumber e = none-some e
    go (AT.Base k) e = none-some e
    go AT.Nothing e = none-some e

name-there : (us : Trees Run) (w : Name) → name_in us ≡ some w → (us ≡ end) → ⊥
unfolding name_in part_of Base.◌>>=◌
name-there us w h e = none-some (ap name_in (sym e) ∙ h)

bind-of : {A B : Type 0} (o : Option A) (a : A) (f : A → Option B) → o ≡ some a → Base.◌>>=◌ o f ≡ f a
unfolding Base.◌>>=◌
bind-of o a f h = rw h refl

-- the variable that a name means
pub var-meant : {P : Type 0} {s l ts : List ℕ} {scope : Scope} {σ : Environment} → Known s l ts scope σ → (w : Name) (i : ℕ) → var_of σ w ≡ some i → ((c : Var) → variable σ.vars i ≡ some c → P) → P
unfolding var_of
var-meant {P} {σ = σ} S w i h k = bind-some h λ o ho e. go (meant S.scene w) ho e
  where
    by : {y : Meaning} {o : NameSort} → Means σ S.bodies y o → as_var o ≡ some i → P
    by a-type e = none-some e
    by (a-var {i = j} v hv) e = k v (ap (variable σ.vars) (sym (some_inj e)) ∙ hv)
    by a-proc e = none-some e
    by a-value e = none-some e

    go : {y : Meaning} {q : Option NameSort} {o : NameSort} → Told σ S.bodies y q → q ≡ some o → as_var o ≡ some i → P
    go unknown f e = none-some f
    go {o = o} (known {m = n} M) f e = by M (ap as_var (some_inj f) ∙ e)

module _ (s l ts : List ℕ) (ws : List ℤ) (scope : Scope) (at : ℕ) (g : Reached) (G : MarksTarget s l ts ws scope 1 at g) (p : ℕ) (P : Skips s at p) (x : Carried) (X : MarksExpr s l ts ws scope 33 p x) (fx : SFits w64 x.word) (r : Held Span ℤ) where
  -- by the variable and the first bound
  bounded : ((σ : Environment) → Known s l ts scope σ → (m : Store) → Holds ws m → (i : ℕ) (c : Var) → variable σ.vars i ≡ some c → Reaches (is (typed_place c.type c.base)) g
      → (u v : Result TypedValue) → Carries σ.types m u x → ((y : Carried) (q : ℕ) → Skips s p q → MarksExpr s l ts ws scope 33 q y → Carries σ.types m v y)
      → SpanIs σ.types (joined σ.types σ.vars c u v) r) → Bounding s l ts ws scope at r
  unfolding mark_target target_of
  bounded k = record {
    says = λ σ S w a b i y z hw ha hb hi hy hz m H. var-meant S w i hi λ c hc.
        let n = skip-rest s at p P (name-there (first (stack_at s at)) w hw) in
        let ha' : expr_in 33 (first (stack_at s p)) ≡ some a = ap (expr_in 33) n ∙ ha in
        let t : target_of σ (Syntax.var w) ≡ some (reached (Script.var i) (some c.type)) = bind-of (var_of σ w) i _ hi ∙ bind-of (variable σ.vars i) c _ hc in
        let R = (G.says σ S).says (Syntax.var w) (reached (Script.var i) (some c.type)) (name-target (first (stack_at s at)) w hw) t m H in
        subst (λ (o : Option Var). SpanIs σ.types (or_stuck o λ c. joined σ.types σ.vars c (mark_expr σ.types σ.vars y m) (mark_expr σ.types σ.vars z m)) r) (sym hc)
        (k σ S m H i c hc (subst (λ (o : Option Var). Reaches (or_stuck o λ v. is (typed_place v.type v.base)) g) hc R)
        (mark_expr σ.types σ.vars y m) (mark_expr σ.types σ.vars z m) ((X.says σ S).says a y ha' hy m H)
        (λ e q Q E. (E.says σ S).says b z (ap (expr_in 33) (skip-rest s p q Q (expr-there 33 (first (stack_at s p)) a ha') ∙ ap rest n) ∙ hb) hz m H));
  }

  pub bounds-from : lt_z greatest (wire x.word) ≡ true → r ≡ Err (wire x.word) → Bounding s l ts ws scope at r
  bounds-from h e = bounded (λ σ S m H i c hc R u v C D. rw (e, to_z-of_z fx)
      (record { says = broken-bind (λ a. v >>= λ b. mark_bounds σ.types σ.vars c a b >>= λ q. is (c, q)) (carried-broken C (rw (to_z-of_z fx) at h)) }))

  module _ (h : lt_z greatest (wire x.word) ≡ false) (q : ℕ) (Q : Skips s p q) (y : Carried) (Y : MarksExpr s l ts ws scope 33 q y) (fy : SFits w64 y.word) where
    pub bounds-to : lt_z greatest (wire y.word) ≡ true → r ≡ Err (wire y.word) → Bounding s l ts ws scope at r
    bounds-to j e = bounded (λ σ S m H i c hc R u v C D. carried-value C (rw (to_z-of_z fx) at h) (λ a ha w t k. rw (e, to_z-of_z fy, ha)
        (record { says = broken-bind (λ b. mark_bounds σ.types σ.vars c a b >>= λ q. is (c, q)) (carried-broken (D y q Q Y) (rw (to_z-of_z fy) at j)) })))

    pub bounds-join : lt_z greatest (wire y.word) ≡ false → Joins l ts g x y r → Bounding s l ts ws scope at r
    bounds-join j J = bounded (λ σ S m H i c hc R u v C D. carried-value C (rw (to_z-of_z fx) at h) (λ a ha w t k. carried-value (D y q Q Y) (rw (to_z-of_z fy) at j) (λ b hb w' t' k'.
        subst (λ (o : Result TypedValue). SpanIs σ.types (joined σ.types σ.vars c o v) r) (sym ha)
        (subst (λ (o : Result TypedValue). SpanIs σ.types (joined σ.types σ.vars c (is a) o) r) (sym hb)
        (J.says s scope σ S m i c hc R a b (subst (λ (o : Result TypedValue). Carries σ.types m o x) ha C) (subst (λ (o : Result TypedValue). Carries σ.types m o y) hb (D y q Q Y)))))))

pub ruleset bounds_laws = (bounds-from, bounds-to, bounds-join, sfits_of)
