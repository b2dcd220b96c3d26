-- The ways through assignments, `raise`, conditions and selectors.
use mathlib.Core.Path.{◌≡◌, refl, sym, ap, subst, ◌∙◌}
use mathlib.Core.Bool.{true, false}
use mathlib.Core.List.{List, [], ◌∷◌}
use mathlib.Core.Option.{some}
use Prim.Native.Nat.{ℕ, ◌≤◌, min}
use borrow.Author.Rules.{sfits_of}
use lib.IntN.{ℤ, pos}
use lib.Signed.{lt_z}
use mir.Syntax.{w64}
use mir.Val.{SFits}
use mir.Facts.{to_z-of_z}
use Rattle.leaf_integers.proofs.Machine.{wire}
use Rattle.law.specs.Calculate.{Result, is, ◌>>=◌}
use Rattle.law.specs.Environment.{Environment}
use Rattle.law.specs.Machine.{Store, State, state, Answer, sole, raise_number, with_result}
use Rattle.law.specs.Marking.{TypedValue, TypedPlace, typed_value, mark_expr, mark_target, mark_stmt, mark_store, require, wanted}
use Rattle.law.specs.Names as Names
use Rattle.law.specs.Names.{target_of}
use Rattle.law.specs.Syntax as Syntax
use Rattle.law.specs.Trees.{Trees, end, ◌then◌, Run, first}
use Rattle.law_theorems.specs.Readings.{stack_at}
use Rattle.law.specs.Types.{host_of, ordinal?}
use Rattle.law_theorems.proofs.Inversion.{none-some}
use Rattle.text_heads.specs.Parts.{rest, expr_in, target_in}
use Rattle.text_heads.proofs.Expressions.{expr-end, target-end}
use Rattle.text_skips.specs.Skips.{Skips}
use Rattle.mark_steps.specs.Ends.{left_in, number_in, RaisesNumber}
use Rattle.mark_steps.specs.Stands.{Stands, after}
use Rattle.mark_cells.proofs.Ending.{again-fewer, raised-low, raise-ends}
use Rattle.table_scope.specs.declared.Scope.{Scope}
use Rattle.table_scope.specs.declared.Info.{Info}
use Rattle.table_scope.specs.Descriptions.{info_of}
use Rattle.mark_values.specs.declared.values.Carried.{Carried}
use Rattle.mark_values.specs.declared.places.Reached.{Reached}
use Rattle.mark_values.specs.Values.{carried_of, MarkMeans, Carries, Reaches, Known}
use Rattle.mark_values.specs.Steps.{Wants}
use Rattle.mark_values.proofs.Carrying.{broken-bind, carries-broken, carries-cell, carries-stuck, view-broken, view-value, carried-broken, carried-value}
use Rattle.mark_values.proofs.Ruling.{simple-ordinal}
use Rattle.mark_values.proofs.Settling.{ordinal-yes, ordinal-no}
use Rattle.table_scope.proofs.Telling.{kinded}
use Rattle.mark_expressions.specs.Marks.{MarksExpr, MarksTarget}
use Rattle.mark_acts.specs.Ends.{MarkEnds, Halts}
use Rattle.mark_acts.specs.Storing.{Stores}
use Rattle.mark_acts.specs.Acts.{Assigns, Raising, Conditions, Selects}
use Rattle.mark_acts.proofs.Ending.{mark-ends, halts-ends, goes_on}
use Rattle.code_calc.specs.Words.{no_result, greatest}

-- where a part is passed, the others stand
pub skip-rest : (s : List ℕ) (at q : ℕ) → Skips s at q → ((first (stack_at s at) ≡ end) → ⊥) → first (stack_at s q) ≡ rest (first (stack_at s at))
skip-rest s at q K h = go (first (stack_at s at)) refl
  where
    go : (us : Trees Run) → first (stack_at s at) ≡ us → first (stack_at s q) ≡ rest us
    go end e = absurd (h e)
    go (t then us) e = ap rest (sym (K.says t us e).here ∙ e)

-- a part that was read is there
pub expr-there : (d : ℕ) (us : Trees Run) (x : Syntax.Expr) → expr_in d us ≡ some x → (us ≡ end) → ⊥
expr-there d us x h e = none-some (sym (expr-end d) ∙ ap (expr_in d) (sym e) ∙ h)

pub target-there : (d : ℕ) (us : Trees Run) (x : Syntax.Target) → target_in d us ≡ some x → (us ≡ end) → ⊥
target-there d us x h e = none-some (sym (target-end d) ∙ ap (target_in d) (sym e) ∙ h)

-- ---- `assign`

module _ (s l ts : List ℕ) (scope : Scope) (n at : ℕ) (ws : List ℤ) (left q : ℕ) (K : Skips s at q) (x : Carried) (X : MarksExpr s l ts ws scope 33 q x) (fx : SFits w64 x.word) (ws' : List ℤ) (r : ℕ) where
  -- what is stored, and where
  storing : Environment → ℕ → Names.Reached → State → TypedValue → Answer
  storing σ k p t v = with_result k t (mark_target σ.types σ.vars p.target t.store) λ w.
      with_result k t (wanted (host_of σ.types w.type) v) λ zs. mark_store σ.types σ.vars k w zs t

  -- the statement ends as its value does, and what comes after
  assigned : left_in r ≤ left
      → ((σ : Environment) → Known s l ts scope σ → (g : Syntax.Target) (p : Names.Reached) → target_in 33 (first (stack_at s at)) ≡ some g → target_of σ g ≡ some p
      → (m : Store) → Stands ws left m → (v : Result TypedValue) → Carries σ.types m v x → MarkEnds (with_result n (state m left) v (λ y. storing σ n p (state m left) y)) ws' r)
      → Assigns s l ts scope n at ws left ws' r
  unfolding after mark_stmt storing
  assigned f k = record {
    runs = λ σ S g e p y hg he hp hy ps. record {
      says = λ m T. k σ S g p hg hp m T (mark_expr σ.types σ.vars y m)
          ((X.says σ S).says e y (ap (expr_in 33) (skip-rest s at q K (target-there 33 (first (stack_at s at)) g hg)) ∙ he) hy m T.holds);
    };
    fewer = f;
  }

  pub assign-unvalued : lt_z greatest (wire x.word) ≡ true → Halts (wire x.word) n ws left ws' r → Assigns s l ts scope n at ws left ws' r
  assign-unvalued h H = assigned H.fewer (λ σ S g p hg hp m T v C.
      halts-ends ws left m n v x.word (λ y. storing σ n p (state m left) y) ws' r T (carried-broken C (rw (to_z-of_z fx) at h)) (subst (λ (z : ℤ). Halts z n ws left ws' r) (to_z-of_z fx) H))

  module _ (h : lt_z greatest (wire x.word) ≡ false) (g : Reached) (G : MarksTarget s l ts ws scope 33 at g) (fg : SFits w64 g.word) where
    -- as its target does, and what comes after
    placed : left_in r ≤ left
        → ((σ : Environment) → Known s l ts scope σ → (m : Store) → Stands ws left m → (v : TypedValue) → Carries σ.types m (is v) x → (u : Result TypedPlace) → Reaches u g
        → MarkEnds (with_result n (state m left) u λ w. with_result n (state m left) (wanted (host_of σ.types w.type) v) λ zs. mark_store σ.types σ.vars n w zs (state m left)) ws' r)
        → Assigns s l ts scope n at ws left ws' r
    unfolding storing
    placed f k = assigned f (λ σ S t p hg hp m T v C. carried-value C (rw (to_z-of_z fx) at h) (λ a e w i j.
        goes_on n (state m left) v a (λ y. storing σ n p (state m left) y) ws' r e
        (k σ S m T a (subst (λ (y : Result TypedValue). Carries σ.types m y x) e C) (mark_target σ.types σ.vars p.target m) ((G.says σ S).says t p hg hp m T.holds))))

    pub assign-unplaced : lt_z greatest (wire g.word) ≡ true → Halts (wire g.word) n ws left ws' r → Assigns s l ts scope n at ws left ws' r
    assign-unplaced i H = placed H.fewer (λ σ S m T v C u R.
        halts-ends ws left m n u g.word (λ w. with_result n (state m left) (wanted (host_of σ.types w.type) v) λ zs. mark_store σ.types σ.vars n w zs (state m left)) ws' r T
        (view-broken g.word u (λ w. pos (min w.addr 4294967295)) R.word-is (rw (to_z-of_z fg) at i)) (subst (λ (z : ℤ). Halts z n ws left ws' r) (to_z-of_z fg) H))

    pub assign-stores : lt_z greatest (wire g.word) ≡ false → Stores l ts n x g ws left ws' r → Assigns s l ts scope n at ws left ws' r
    assign-stores i O = placed O.fewer (λ σ S m T v C u R.
        view-value g.word u (λ w. pos (min w.addr 4294967295)) R.word-is (rw (to_z-of_z fg) at i) (λ w e j k.
        goes_on n (state m left) u w (λ w. with_result n (state m left) (wanted (host_of σ.types w.type) v) λ zs. mark_store σ.types σ.vars n w zs (state m left)) ws' r e
        (O.says s scope σ S m v w C (subst (λ (y : Result TypedPlace). Reaches y g) e R) T)))

pub ruleset assign_laws = (assign-unvalued, assign-unplaced, assign-stores, sfits_of)

-- ---- `raise`

module _ (s l ts : List ℕ) (scope : Scope) (n at : ℕ) (ws : List ℤ) (left : ℕ) (x : Carried) (X : MarksExpr s l ts ws scope 33 at x) (z : ℤ) (W : Wants 0 x z) (fz : SFits w64 z) (ws' : List ℤ) (r : ℕ) where
  raised : left_in r ≤ left
      → ((m : Store) → Stands ws left m → (v : Result (List ℤ)) → MarkMeans z (v >>= λ u. is (sole u)) → MarkEnds (with_result n (state m left) v λ u. raise_number n (sole u) (state m left)) ws' r)
      → Raising s l ts scope n at ws left ws' r
  unfolding after mark_stmt
  raised f k = record {
    runs = λ σ S e y he hy ps. record {
      says = λ m T. k m T (mark_expr σ.types σ.vars y m >>= wanted 0) (W.says σ.types m (mark_expr σ.types σ.vars y m) ((X.says σ S).says e y he hy m T.holds));
    };
    fewer = f;
  }

  pub raise-unvalued : lt_z greatest (wire z) ≡ true → Halts (wire z) n ws left ws' r → Raising s l ts scope n at ws left ws' r
  raise-unvalued h H = raised H.fewer (λ m T v M.
      halts-ends ws left m n v z (λ u. raise_number n (sole u) (state m left)) ws' r T (view-broken z v (λ u. sole u) M (rw (to_z-of_z fz) at h)) (subst (λ (y : ℤ). Halts y n ws left ws' r) (to_z-of_z fz) H))

  pub raise-number : lt_z greatest (wire z) ≡ false → RaisesNumber (wire z) n ws left ws' r → Raising s l ts scope n at ws left ws' r
  raise-number h R = raised (again-fewer left r R.word) (λ m T v M.
      view-value z v (λ u. sole u) M (rw (to_z-of_z fz) at h) (λ u e w i.
      let o : ws' ≡ number_in (sole u) n ws = R.store ∙ ap (λ (y : ℤ). number_in y n ws) (to_z-of_z fz ∙ w) in
      goes_on n (state m left) v u (λ u. raise_number n (sole u) (state m left)) ws' r e
      (subst (λ (us : List ℤ). MarkEnds (raise_number n (sole u) (state m left)) us r) (sym o)
      (mark-ends (raise_number n (sole u) (state m left)) (number_in (sole u) n ws) r (raised-low left r R.word) (raise-ends ws left m (sole u) n T i r R.word R.small)))))

pub ruleset raise_laws = (raise-unvalued, raise-number, sfits_of)

-- ---- `condition`

pub condition-is : (s l ts : List ℕ) (ws : List ℤ) (scope : Scope) (at : ℕ) (x : Carried) (r : ℤ) → MarksExpr s l ts ws scope 33 at x → Wants 1 x r → SFits w64 r → Conditions s l ts ws scope at (wire r)
condition-is s l ts ws scope at x r X W f = record {
  says = λ σ S e y he hy m H. subst (λ (z : ℤ). MarkMeans z ((mark_expr σ.types σ.vars y m >>= wanted 1) >>= λ u. is (sole u))) (sym (to_z-of_z f))
      (W.says σ.types m (mark_expr σ.types σ.vars y m) ((X.says σ S).says e y he hy m H));
}

pub ruleset condition_laws = (condition-is, sfits_of)

-- ---- `selector`

module _ (s l ts : List ℕ) (ws : List ℤ) (scope : Scope) (at : ℕ) (x : Carried) (X : MarksExpr s l ts ws scope 33 at x) (fx : SFits w64 x.word) (r : Carried) where
  selected : ((σ : Environment) → Known s l ts scope σ → (m : Store) → (v : Result TypedValue) → Carries σ.types m v x
      → Carries σ.types m (v >>= λ v. require (ordinal? σ.types v.kind) (is v)) r) → Selects s l ts ws scope at r
  selected k = record { says = λ σ S e y he hy m H. k σ S m (mark_expr σ.types σ.vars y m) ((X.says σ S).says e y he hy m H) }

  pub select-fault : lt_z greatest (wire x.word) ≡ true → r ≡ carried_of 0 (wire x.word) 0 → Selects s l ts ws scope at r
  select-fault h e = selected (λ σ S m v C. rw (e, to_z-of_z fx) (carries-broken σ.types m 0 0 (broken-bind (λ v. require (ordinal? σ.types v.kind) (is v)) (carried-broken C (rw (to_z-of_z fx) at h)))))

  module _ (h : lt_z greatest (wire x.word) ≡ false) (i : Info) (I : i ≡ info_of l ts x.kind) where
    pub select-ordinal : i.shape ≡ 0 → r ≡ carried_of x.kind (wire x.word) 0 → Selects s l ts ws scope at r
    select-ordinal j e = selected (λ σ S m v C. carried-value C (rw (to_z-of_z fx) at h) (λ a q w t k.
        let o : ordinal? σ.types a.kind ≡ true = ap (ordinal? σ.types) (sym k) ∙ ordinal-yes S x.kind (sym (ap (λ (y : Info). y.shape) I) ∙ j) in
        let b = simple-ordinal σ.types (kinded S.scene) a.kind o in
        let D : Carries σ.types m (is a) x = subst (λ (y : Result TypedValue). Carries σ.types m y x) q C in
        let c : a.cells ≡ (sole a.cells ∷ []) = D.single a refl b in
        rw (e, to_z-of_z fx, q, o, k, w)
        (subst (λ (zs : List ℤ). Carries σ.types m (is (typed_value a.kind zs)) (carried_of a.kind (sole a.cells) 0)) (sym c) (carries-cell σ.types m a.kind (sole a.cells) 0 b t))))

    pub select-other : ((i.shape ≡ 0) → ⊥) → r ≡ carried_of 0 no_result 0 → Selects s l ts ws scope at r
    select-other j e = selected (λ σ S m v C. carried-value C (rw (to_z-of_z fx) at h) (λ a q w t k.
        let o : ordinal? σ.types a.kind ≡ false = ap (ordinal? σ.types) (sym k) ∙ ordinal-no S x.kind (λ p. j (ap (λ (y : Info). y.shape) I ∙ p)) in
        rw (e, q, o) (carries-stuck σ.types m)))

pub ruleset select_laws = (select-fault, select-ordinal, select-other, sfits_of)
