-- The loop over the members of a set: they come one after another into a set, in whatever order it is the same.
use mathlib.Core.Path.{◌≡◌, refl, sym, ap, subst, ◌∙◌}
use mathlib.Core.Bool.{true, false}
use mathlib.Core.List.{List}
use mathlib.Core.Option.{some}
use Prim.Native.Nat.{ℕ, ◌<◌}
use native.Mathlib.Omega.{arith}
use borrow.Author.Rules.{sfits_of}
use lib.IntN.{ℤ, pos}
use lib.Signed.{lt_z}
use mir.Syntax.{w32, w64}
use mir.Val.{SFits, Fits}
use mir.Facts.{to_z-of_z}
use Rattle.leaf_integers.proofs.Machine.{wire}
use Rattle.leaf_sets.specs.Sets.{members, value_of, with as added}
use Rattle.leaf_sets.proofs.Digits.{value-is}
use Rattle.law.specs.Calculate.{Result, is, fails, stuck, ◌>>=◌, joined}
use Rattle.law.specs.Environment.{Environment}
use Rattle.law.specs.Machine.{Store}
use Rattle.law.specs.Marking.{wanted, mark_expr, mark_members}
use Rattle.law.specs.Names.{exprs_of}
use Rattle.law.specs.Script.{Expr, Exprs, nil}
use Rattle.law.specs.Syntax as Syntax
use Rattle.law.specs.Trees.{Trees, end, ◌then◌, Run, first}
use Rattle.law_theorems.specs.Readings.{stack_at}
use Rattle.law.specs.Types.{base_of}
use Rattle.law_theorems.proofs.Inversion.{some_inj, bind-some}
use Rattle.code_calc.specs.Words.{greatest, Holds}
use Rattle.code_calc.proofs.Joining.{joined-turn, joined-set, bind-id, bind-twice}
use Rattle.code_calc.proofs.Ranging.{low-range}
use Rattle.text_heads.specs.Parts.{part_of, rest, expr_in, exprs_in}
use Rattle.std.specs.Prelude.{Option, Some, None}
use Rattle.text_parts.specs.Parts.{Shuts}
use Rattle.text_skips.specs.Skips.{Skips}
use Rattle.rule_expressions.specs.Members.{many}
use Rattle.mark_values.specs.declared.values.Carried.{Carried}
use Rattle.mark_values.specs.Values.{MarkMeans, Known}
use Rattle.mark_values.specs.Steps.{admitted, Admits}
use Rattle.mark_values.proofs.Carrying.{broken-bind, broken-means, view-broken, view-value, means-value}
use Rattle.mark_values.specs.Carrying.{Broken}
use Rattle.mark_expressions.specs.Marks.{MarksExpr, MarksMembers}
use Rattle.mark_expressions.proofs.Inverting.{past-expr}
use Rattle.table_scope.specs.declared.Scope.{Scope}

-- ---- one member more

-- a first member that was read
pub exprs-parts : {P : Type 0} (d : ℕ) (us : Trees Run) (xs : Syntax.Exprs) → (us ≡ end → ⊥) → exprs_in d us ≡ some xs
    → ((x : Syntax.Expr) (ys : Syntax.Exprs) → expr_in d us ≡ some x → exprs_in d (rest us) ≡ some ys → Syntax.◌and◌ x ys ≡ xs → P) → P
unfolding exprs_in expr_in part_of
exprs-parts d end xs n h f = absurd (n refl)
exprs-parts d (t then ts) xs n h f = bind-some h (λ x hx k. bind-some k (λ ys hy i. f x ys hx hy (some_inj i)))

pub exprs-end : (d : ℕ) (us : Trees Run) (xs : Syntax.Exprs) → us ≡ end → exprs_in d us ≡ some xs → Syntax.nil ≡ xs
unfolding exprs_in
exprs-end d us xs e h = some_inj (rw e at h)

pub value_there : (z : ℤ) (q : Result ℤ) → MarkMeans z q → lt_z greatest z ≡ false → q ≡ is z
value_there z q h g = view-value z q (λ y. y) (subst (λ (v : Result ℤ). MarkMeans z v) (bind-id q) h) g (λ y e f i. e ∙ ap is (sym f))

pub broken-there : (z : ℤ) (q : Result ℤ) → MarkMeans z q → lt_z greatest z ≡ true → Broken z q
broken-there z q h g = view-broken z q (λ y. y) (subst (λ (v : Result ℤ). MarkMeans z v) (bind-id q) h) g

module _ {A B : Type 0} (v : A → Result ℤ) (f : ℤ → Result B) where
  pub through : (q : Result A) (z : ℤ) → (q >>= v) ≡ is z → (q >>= λ u. v u >>= f) ≡ f z
  through (is u) z e = ap (λ (x : Result ℤ). x >>= f) e
  through (fails x) z e = let y : ◌≡◌ {A = ℕ} 0 1 = cc in absurd (omega arith)
  through stuck z e = let y : ◌≡◌ {A = ℕ} 0 1 = cc in absurd (omega arith)

  pub broken-through : (q : Result A) (z : ℤ) → Broken z (q >>= v) → Broken z (q >>= λ u. v u >>= f)
  broken-through (is u) z b = broken-bind f b
  broken-through (fails x) z b = broken-bind f b
  broken-through stuck z b = broken-bind f b

-- ---- what the loop has done

-- the members from `next` on are left, and what was seen is joined to their set
pub record Left (σ : Environment) (t d : ℕ) (us : Trees Run) (es : Exprs) (m : Store) (seen : ℤ → ℤ) : Type 0 where
  pub forms : Syntax.Exprs
  pub exprs : Exprs
  pub read : exprs_in d us ≡ some forms
  pub known : exprs_of σ forms ≡ some exprs
  pub whole : mark_members σ.types σ.vars t es m ≡ (mark_members σ.types σ.vars t exprs m >>= λ y. is (seen y))

pub record Sofar (s l ts : List ℕ) (ws : List ℤ) (scope : Scope) (t d at next set : ℕ) : Type 0 where
  pub small-set : set < 4294967296
  pub seen : ℤ → ℤ
  pub set_is : pos set ≡ seen (pos 0)
  pub turns : (z y : ℤ) → seen (joined z y) ≡ joined z (seen y)
  pub left : (σ : Environment) → Known s l ts scope σ → (xs : Syntax.Exprs) (es : Exprs) → exprs_in d (first (stack_at s at)) ≡ some xs → exprs_of σ xs ≡ some es
      → (m : Store) → Holds ws m → Left σ t d (first (stack_at s next)) es m seen

module _ (s l ts : List ℕ) (ws : List ℤ) (scope : Scope) (t d at : ℕ) where
  pub sofar-start : Sofar s l ts ws scope t d at at 0
  sofar-start = record {
    small-set = omega arith;
    seen = λ y. y;
    set_is = refl;
    turns = λ z y. refl;
    left = λ σ S xs es h k m H. record { forms = xs; exprs = es; read = h; known = k; whole = bind-id (mark_members σ.types σ.vars t es m) };
  }

  module _ (next set : ℕ) (F : Sofar s l ts ws scope t d at next set) (e : Option ℕ) (E : Shuts s next e) where
    pub members-done : (q : ℕ) (z : ℤ) → e ≡ Some q → z ≡ pos (value_of (members set)) → SFits w64 z → MarksMembers s l ts ws scope t d at (wire z)
    unfolding exprs_of mark_members
    members-done q z h g f = rw (to_z-of_z f, g, value-is set F.small-set) (record {
      says = λ σ S. record {
        says = λ xs es i k m H.
            let L = F.left σ S xs es i k m H in
            let a = exprs-end d (first (stack_at s next)) L.forms (rw h at E.says).here L.read in
            let b : nil ≡ L.exprs = some_inj (rw (← a) at L.known) in
            subst (λ (v : Result ℤ). MarkMeans (pos set) v) (sym (L.whole ∙ ap (λ (ys : Exprs). mark_members σ.types σ.vars t ys m >>= λ y. is (F.seen y)) (sym b) ∙ ap is (sym F.set_is)))
            (means-value (pos set) (low-range set (omega (arith, F.small-set))));
      };
    })

    module _ (h : e ≡ None) (x : Carried) (X : MarksExpr s l ts ws scope d next x) (z : ℤ) (A : Admits l ts t x z) (fz : SFits w64 z) where
      not_end : first (stack_at s next) ≡ end → ⊥
      not_end = rw h at E.says

      -- the first of those that are left, and the others
      record Next (σ : Environment) (es : Exprs) (m : Store) : Type 0 where
        form : Syntax.Expr
        forms : Syntax.Exprs
        expr : Expr
        exprs : Exprs
        here : expr_in d (first (stack_at s next)) ≡ some form
        read : exprs_in d (rest (first (stack_at s next))) ≡ some forms
        known : exprs_of σ forms ≡ some exprs
        means : MarkMeans z ((mark_expr σ.types σ.vars expr m >>= wanted (base_of σ.types t)) >>= λ u. admitted σ.types t u)
        whole : mark_members σ.types σ.vars t es m ≡ (((mark_expr σ.types σ.vars expr m >>= wanted (base_of σ.types t)) >>= λ u. admitted σ.types t u >>= λ y.
            mark_members σ.types σ.vars t exprs m >>= λ ys. is (joined y ys)) >>= λ y. is (F.seen y))

      taken : (σ : Environment) → Known s l ts scope σ → (xs : Syntax.Exprs) (es : Exprs) → exprs_in d (first (stack_at s at)) ≡ some xs → exprs_of σ xs ≡ some es → (m : Store) → Holds ws m → Next σ es m
      unfolding exprs_of mark_members
      taken σ S xs es i k m H =
          let L = F.left σ S xs es i k m H in
          exprs-parts d (first (stack_at s next)) L.forms not_end L.read (λ y ys hy hys q.
          bind-some (rw (← q) at L.known) (λ v hv j. bind-some j (λ vs hvs p. record {
            form = y;
            forms = ys;
            expr = v;
            exprs = vs;
            here = hy;
            read = hys;
            known = hvs;
            means = A.says s scope σ S m (mark_expr σ.types σ.vars v m) ((X.says σ S).says y v hy hv m H);
            whole = L.whole ∙ ap (λ (ws : Exprs). mark_members σ.types σ.vars t ws m >>= λ y. is (F.seen y)) (sym (some_inj p));
          })))

      pub members-fault : lt_z greatest (wire z) ≡ true → MarksMembers s l ts ws scope t d at (wire z)
      members-fault g = rw (to_z-of_z fz) (record {
        says = λ σ S. record {
          says = λ xs es i k m H.
              let N = taken σ S xs es i k m H in
              subst (λ (v : Result ℤ). MarkMeans z v) (sym N.whole)
              (broken-means (broken-bind (λ y. is (F.seen y)) (broken-through (λ u. admitted σ.types t u) (λ y. mark_members σ.types σ.vars t N.exprs m >>= λ ys. is (joined y ys))
              (mark_expr σ.types σ.vars N.expr m >>= wanted (base_of σ.types t)) z (broken-there z _ N.means (rw (to_z-of_z fz) at g)))));
        };
      })

      module _ (q : ℕ) (Q : Skips s next q) where
        pub members-falls : many (first (stack_at s q)) < many (first (stack_at s next))
        unfolding many
        members-falls = go (first (stack_at s next)) refl
          where
            go : (us : Trees Run) → first (stack_at s next) ≡ us → many (first (stack_at s q)) < many us
            go end i = absurd (not_end i)
            go (u then us) i = let b : us ≡ first (stack_at s q) = ap rest (sym i ∙ (Q.says u us i).here) in rw b (omega arith)

        pub members-next : (set' : ℕ) → lt_z greatest (wire z) ≡ false → set' ≡ value_of (added (wire z) (members set)) → Fits w32 set' → Sofar s l ts ws scope t d at q set'
        members-next set' g i f = record {
          small-set = omega (arith, f.fits);
          seen = λ y. F.seen (joined z y);
          set_is = joined-set z set set' F.small-set (i ∙ ap (λ (c : ℤ). value_of (added c (members set))) (to_z-of_z fz)) ∙ ap (joined z) F.set_is ∙ sym (F.turns z (pos 0));
          turns = λ w y. ap F.seen (joined-turn z w y) ∙ F.turns w (joined z y);
          left = λ σ S xs es j k m H.
              let N = taken σ S xs es j k m H in
              record {
                forms = N.forms;
                exprs = N.exprs;
                read = rw (past-expr Q d N.form N.here) at N.read;
                known = N.known;
                whole = N.whole ∙ ap (λ (v : Result ℤ). v >>= λ y. is (F.seen y)) (through (λ u. admitted σ.types t u) (λ y. mark_members σ.types σ.vars t N.exprs m >>= λ ys. is (joined y ys))
                    (mark_expr σ.types σ.vars N.expr m >>= wanted (base_of σ.types t)) z (value_there z _ N.means (rw (to_z-of_z fz) at g)))
                    ∙ bind-twice (mark_members σ.types σ.vars t N.exprs m) (joined z) F.seen;
              };
        }

pub ruleset members-laws = (members-done, members-fault, sfits_of)

pub ruleset members-again = (members-next, sfits_of)
