-- The ways through the arguments of a call.
use mathlib.Core.Path.{◌≡◌, refl, sym, ap, subst, ◌∙◌}
use mathlib.Core.Bool.{Bool, true, false, true≢false}
use mathlib.Core.List.{List, [], ◌∷◌, ◌++◌, append-nil}
use mathlib.Core.Logic.{◌⊎◌, inl, inr}
use mathlib.Core.Option.{some}
use Rattle.std.specs.Prelude.{Ok, Err, Result as Held}
use Prim.Native.Nat.{ℕ, suc, ◌+◌, ◌<◌, ◌≤◌, min}
use native.Mathlib.Omega.{arith}
use borrow.Author.Rules.{sfits_of}
use borrow.Author.Tests.{lt-ltb, le-ltb}
use lib.Dec.{ltb}
use lib.IntN.{ℤ, pos}
use lib.ListN.{get_or, length, set, drop, length-append, length-set, drop_of_length-le, get_or-append}
use lib.Seq.{append_snoc, drop-cons, get_or_at, get_or-set_same, get_or-set_other}
use lib.Signed.{lt_z}
use mir.Syntax.{w64}
use mir.Val.{SFits}
use mir.Facts.{to_z-of_z}
use Rattle.leaf_integers.proofs.Machine.{wire}
use Rattle.leaf_integers.proofs.Order.{le-or-lt}
use Rattle.law.specs.Base.{pick}
use Rattle.law.specs.Calculate.{Result, is, fails, stuck, ◌>>=◌}
use Rattle.law.specs.Environment.{Environment}
use Rattle.law.specs.Machine.{Store}
use Rattle.law.specs.Marking.{mark_arguments, mark_expr, wanted}
use Rattle.law.specs.Names.{exprs_of}
use Rattle.law.specs.Script.{Expr, Exprs, nil, ◌and◌}
use Rattle.law.specs.Syntax as Syntax
use Rattle.law.specs.Trees.{Trees, end, Run, first}
use Rattle.law_theorems.specs.Readings.{stack_at}
use Rattle.law.specs.Types.{host_of}
use Rattle.law_theorems.proofs.Inversion.{some_inj, bind-some}
use Rattle.code_calc.specs.Words.{greatest, InRange, Holds}
use Rattle.code_calc.proofs.Joining.{bind-id}
use Rattle.text_heads.specs.Parts.{rest, expr_in, exprs_in}
use Rattle.std.specs.Prelude.{Option, Some, None}
use Rattle.text_parts.specs.Parts.{Shuts}
use Rattle.text_skips.specs.Skips.{Skips}
use Rattle.table_scope.specs.declared.Scope.{Scope}
use Rattle.table_scope.specs.declared.frames.Frame.{Frame}
use Rattle.mark_cells.specs.Cells.{Gives, Forgets}
use Rattle.mark_cells.proofs.Stored.{given-stands}
use Rattle.mark_values.specs.declared.values.Carried.{Carried}
use Rattle.mark_values.specs.Values.{MarkMeans, Known}
use Rattle.mark_values.specs.Steps.{taken, Takes}
use Rattle.mark_values.specs.Carrying.{Broken}
use Rattle.mark_values.proofs.Carrying.{broken-bind, view-value}
use Rattle.mark_expressions.specs.Marks.{MarksExpr}
use Rattle.mark_expressions.proofs.Inverting.{past-expr}
use Rattle.mark_expressions.proofs.Gathering.{exprs-parts, exprs-end, value_there, broken-there, through, broken-through}
use Rattle.mark_acts.specs.Arguments.{Lists, arguments_of, InWords, returns, TakesBack, Argues, Gathers, Passes}

-- ---- `argued`

pub argued-is : (s l ts : List ℕ) (ws : List ℤ) (scope : Scope) (t at : ℕ) (x : Carried) (r : ℤ) → MarksExpr s l ts ws scope 33 at x → Takes l ts t x r → SFits w64 r → Argues s l ts ws scope t at (wire r)
argued-is s l ts ws scope t at x r X T f = rw (to_z-of_z f) (record {
  says = λ σ S e y he hy m H. T.says s scope σ S m (mark_expr σ.types σ.vars y m) ((X.says σ S).says e y he hy m H);
})

pub ruleset argued_laws = (argued-is, sfits_of)

-- ---- values of a list, one after another

append-results : (v : Result (List ℤ)) (z : ℤ) (zs : List ℤ) → ((v >>= λ ys. is (z ∷ ys)) >>= λ ys. is (zs ++ ys)) ≡ (v >>= λ ys. is ((zs ++ (z ∷ [])) ++ ys))
append-results (is ys) z zs = ap (λ (y : List ℤ). is y) (sym (append_snoc zs z ys))
append-results (fails e) z zs = refl
append-results stuck z zs = refl

result-same : (v : Result (List ℤ)) → v ≡ (v >>= λ ys. is ys)
result-same (is ys) = refl
result-same (fails e) = refl
result-same stuck = refl

-- a word below the faults is a value's
ranged-there : (z : ℤ) (q : Result ℤ) → MarkMeans z q → lt_z greatest z ≡ false → InRange z
ranged-there z q h g = view-value z q (λ y. y) (subst (λ (v : Result ℤ). MarkMeans z v) (bind-id q) h) g (λ y e f i. subst InRange (sym f) i)

-- ---- what the loop has done: the arguments from `next` on are left, and the values of those before are the first j words

pub record Left (σ : Environment) (us : List ℕ) (rs : Trees Run) (es : Exprs) (m : Store) (vs : List ℤ) (j : ℕ) : Type 0 where
  pub forms : Syntax.Exprs
  pub exprs : Exprs
  pub read : exprs_in 33 rs ≡ some forms
  pub known : exprs_of σ forms ≡ some exprs
  pub values : List ℤ
  pub count : length values ≡ j
  pub same : (i : ℕ) → i < j → get_or vs i (pos 0) ≡ get_or values i (pos 0)
  pub ranged : (i : ℕ) → i < length values → InRange (get_or values i (pos 0))
  pub whole : arguments_of σ us es m ≡ (arguments_of σ (drop j us) exprs m >>= λ zs. is (values ++ zs))

pub record Sofar (s l ts : List ℕ) (ws : List ℤ) (scope : Scope) (x : Frame) (at next : ℕ) (vs₀ vs : List ℤ) (j : ℕ) : Type 0 where
  pub long : length vs ≡ length vs₀
  pub left : length vs₀ ≡ 8 → (σ : Environment) → Known s l ts scope σ → (us : List ℕ) → Lists l x us → (xs : Syntax.Exprs) (es : Exprs) → exprs_in 33 (first (stack_at s at)) ≡ some xs → exprs_of σ xs ≡ some es
      → (m : Store) → Holds ws m → Left σ us (first (stack_at s next)) es m vs j

module _ (s l ts : List ℕ) (ws : List ℤ) (scope : Scope) (x : Frame) (at : ℕ) (vs₀ : List ℤ) where
  pub sofar-start : Sofar s l ts ws scope x at at vs₀ vs₀ 0
  sofar-start = record {
    long = refl;
    left = λ eight σ S us U xs es h k m H. record {
      forms = xs;
      exprs = es;
      read = h;
      known = k;
      values = [];
      count = refl;
      same = λ i g. absurd (omega arith);
      ranged = λ i g. absurd (omega arith);
      whole = result-same (arguments_of σ us es m);
    };
  }

  -- nothing is left
  words_are : {σ : Environment} {us : List ℕ} {rs : Trees Run} {es : Exprs} {m : Store} {vs : List ℤ} {j : ℕ} (L : Left σ us rs es m vs j) → arguments_of σ (drop j us) L.exprs m ≡ is []
      → InWords vs j (arguments_of σ us es m)
  words_are L e = record {
    values = L.values;
    gives = L.whole ∙ ap (λ (v : Result (List ℤ)). v >>= λ zs. is (L.values ++ zs)) e ∙ ap (λ (y : List ℤ). is y) (append-nil L.values);
    count = L.count;
    same = L.same;
    ranged = L.ranged;
  }

  no-parameter : (σ : Environment) (us : List ℕ) (es : Exprs) (m : Store) → us ≡ [] → arguments_of σ us es m ≡ is []
  unfolding mark_arguments
  no-parameter σ us nil m e = refl
  no-parameter σ us (y and ys) m e = rw e refl

  module _ (next : ℕ) (vs : List ℤ) (j n : ℕ) (N : n ≡ min x.count 8) (F : Sofar s l ts ws scope x at next vs₀ vs j) where
    pub all-given : j ≤ n → n ≤ j → Gathers s l ts ws scope x at vs₀ vs (Ok n)
    all-given h g = record {
      long = F.long;
      says = λ eight σ S us U xs es i k m H.
          let b : length us ≤ j = omega (arith, U.count-is, U.few, N, g) in
          subst (λ (y : ℕ). InWords vs y (arguments_of σ us es m)) (omega (arith, h, g)) (words_are (F.left eight σ S us U xs es i k m H) (no-parameter σ (drop j us) _ m (drop_of_length-le us b)));
    }

    module _ (e : Option ℕ) (E : Shuts s next e) where
      pub no_more : (q : ℕ) → e ≡ Some q → Gathers s l ts ws scope x at vs₀ vs (Ok j)
      unfolding exprs_of mark_arguments
      no_more q h = record {
        long = F.long;
        says = λ eight σ S us U xs es i k m H.
            let L = F.left eight σ S us U xs es i k m H in
            let a = exprs-end 33 (first (stack_at s next)) L.forms (rw h at E.says).here L.read in
            let b : nil ≡ L.exprs = some_inj (rw (← a) at L.known) in
            words_are L (ap (λ (ys : Exprs). arguments_of σ (drop j us) ys m) (sym b));
      }

      module _ (h : e ≡ None) (t : ℕ) (T : t ≡ get_or l (x.types + j) 0) (z : ℤ) (A : Argues s l ts ws scope t next z) (fz : SFits w64 z) (g : j < n) where
        not_end : first (stack_at s next) ≡ end → ⊥
        not_end = rw h at E.says

        -- the first of those that are left, and the others
        record Next (σ : Environment) (us : List ℕ) (es : Exprs) (m : Store) (values : List ℤ) : Type 0 where
          form : Syntax.Expr
          forms : Syntax.Exprs
          expr : Expr
          exprs : Exprs
          here : expr_in 33 (first (stack_at s next)) ≡ some form
          read : exprs_in 33 (rest (first (stack_at s next))) ≡ some forms
          known : exprs_of σ forms ≡ some exprs
          means : MarkMeans z ((mark_expr σ.types σ.vars expr m >>= wanted (host_of σ.types t)) >>= λ u. taken σ.types t u)
          whole : arguments_of σ us es m ≡ (((mark_expr σ.types σ.vars expr m >>= wanted (host_of σ.types t)) >>= λ u. taken σ.types t u >>= λ y.
              arguments_of σ (drop (suc j) us) exprs m >>= λ ys. is (y ∷ ys)) >>= λ ys. is (values ++ ys))

        shape : (σ : Environment) (us : List ℕ) → Lists l x us → (y : Expr) (ys : Exprs) (m : Store) → arguments_of σ (drop j us) (y and ys) m
            ≡ ((mark_expr σ.types σ.vars y m >>= wanted (host_of σ.types t)) >>= λ u. taken σ.types t u >>= λ z. arguments_of σ (drop (suc j) us) ys m >>= λ zs. is (z ∷ zs))
        unfolding mark_arguments
        shape σ us U y ys m =
            let b : j < length us = omega (arith, U.count-is, U.few, N, g) in
            ap (λ (vs : List ℕ). arguments_of σ vs (y and ys) m) (drop-cons us j 0 b)
            ∙ ap (λ (k : ℕ). arguments_of σ (k ∷ drop (suc j) us) (y and ys) m) (sym (T ∙ U.types_are j b))

        taken_next : (σ : Environment) → Known s l ts scope σ → (us : List ℕ) → Lists l x us → (es : Exprs) (m : Store) → Holds ws m → (L : Left σ us (first (stack_at s next)) es m vs j) → Next σ us es m L.values
        unfolding exprs_of
        taken_next σ S us U es m H L =
            exprs-parts 33 (first (stack_at s next)) L.forms not_end L.read (λ y ys hy hys q.
            bind-some (rw (← q) at L.known) (λ v hv i. bind-some i (λ ws hws p. record {
              form = y;
              forms = ys;
              expr = v;
              exprs = ws;
              here = hy;
              read = hys;
              known = hws;
              means = A.says σ S y v hy hv m H;
              whole = L.whole ∙ ap (λ (v : Result (List ℤ)). v >>= λ zs. is (L.values ++ zs)) (ap (λ (ys : Exprs). arguments_of σ (drop j us) ys m) (sym (some_inj p)) ∙ shape σ us U v ws m);
            })))

        pub halted-there : lt_z greatest (wire z) ≡ true → Gathers s l ts ws scope x at vs₀ vs (Err (wire z))
        halted-there i = rw (to_z-of_z fz) (record {
          long = F.long;
          says = λ eight σ S us U xs es a k m H.
              let L = F.left eight σ S us U xs es a k m H in
              let O = taken_next σ S us U es m H L in
              let b : lt_z greatest z ≡ true = rw (to_z-of_z fz) at i in (
                subst (λ (v : Result (List ℤ)). Broken z v) (sym O.whole)
                    (broken-bind (λ ys. is (L.values ++ ys)) (broken-through (λ u. taken σ.types t u) (λ y. arguments_of σ (drop (suc j) us) O.exprs m >>= λ ys. is (y ∷ ys))
                    (mark_expr σ.types σ.vars O.expr m >>= wanted (host_of σ.types t)) z (broken-there z _ O.means b))),
                b,
              );
        })

        module _ (i : lt_z greatest (wire z) ≡ false) (q : ℕ) (Q : Skips s next q) where
          snoc-same : length vs₀ ≡ 8 → (zs : List ℤ) → length zs ≡ j → ((i : ℕ) → i < j → get_or vs i (pos 0) ≡ get_or zs i (pos 0)) → (i : ℕ) → i < j + 1 → get_or (set vs j z) i (pos 0) ≡ get_or (zs ++ (z ∷ [])) i (pos 0)
          snoc-same eight zs c f i k = go (le-or-lt j i)
            where
              go : (j ≤ i) ⊎ (i < j) → get_or (set vs j z) i (pos 0) ≡ get_or (zs ++ (z ∷ [])) i (pos 0)
              go (inr b) = get_or-set_other vs j i z (pos 0) (λ e. absurd (omega (arith, e, b))) ∙ f i b ∙ sym (get_or-append zs (z ∷ []) (pos 0) i (omega (arith, b, c)))
              go (inl b) =
                  let e : i ≡ j = omega (arith, b, k) in
                  rw e (get_or-set_same vs j z (pos 0) (omega (arith, F.long, eight, N, g)) ∙ sym (get_or_at zs z [] (pos 0) j c))

          snoc-ranged : (zs : List ℤ) → InRange z → ((i : ℕ) → i < length zs → InRange (get_or zs i (pos 0))) → (i : ℕ) → i < length (zs ++ (z ∷ [])) → InRange (get_or (zs ++ (z ∷ [])) i (pos 0))
          snoc-ranged zs r f i k = go (le-or-lt (length zs) i)
            where
              go : (length zs ≤ i) ⊎ (i < length zs) → InRange (get_or (zs ++ (z ∷ [])) i (pos 0))
              go (inr b) = subst InRange (sym (get_or-append zs (z ∷ []) (pos 0) i b)) (f i b)
              go (inl b) =
                  let e : length zs ≡ i = omega (arith, b, k, length-append zs (z ∷ [])) in
                  subst InRange (sym (get_or_at zs z [] (pos 0) i e)) r

          pub one_more : Sofar s l ts ws scope x at q vs₀ (set vs j (wire z)) (j + 1)
          one_more = rw (to_z-of_z fz) (record {
            long = length-set vs j z ∙ F.long;
            left = λ eight σ S us U xs es a k m H.
                let L = F.left eight σ S us U xs es a k m H in
                let O = taken_next σ S us U es m H L in
                let b : lt_z greatest z ≡ false = rw (to_z-of_z fz) at i in
                let c = value_there z _ O.means b in
                let n : suc j ≡ j + 1 = omega arith in
                record {
                  forms = O.forms;
                  exprs = O.exprs;
                  read = rw (past-expr Q 33 O.form O.here) at O.read;
                  known = O.known;
                  values = L.values ++ (z ∷ []);
                  count = length-append L.values (z ∷ []) ∙ ap (λ (n : ℕ). n + 1) L.count;
                  same = snoc-same eight L.values L.count L.same;
                  ranged = snoc-ranged L.values (ranged-there z _ O.means b) L.ranged;
                  whole = O.whole ∙ ap (λ (v : Result (List ℤ)). v >>= λ ys. is (L.values ++ ys)) (through (λ u. taken σ.types t u) (λ y. arguments_of σ (drop (suc j) us) O.exprs m >>= λ ys. is (y ∷ ys))
                      (mark_expr σ.types σ.vars O.expr m >>= wanted (host_of σ.types t)) z c)
                      ∙ append-results (arguments_of σ (drop (suc j) us) O.exprs m) z L.values
                      ∙ ap (λ (k : ℕ). arguments_of σ (drop k us) O.exprs m >>= λ ys. is ((L.values ++ (z ∷ [])) ++ ys)) n;
                };
          })

pub ruleset gathered_laws = (all-given, no_more, halted-there, sfits_of)

pub ruleset gathered-again = (one_more, sfits_of)

-- ---- `pass`

module _ (s l ts : List ℕ) (scope : Scope) (x : Frame) (at : ℕ) (ws vs₀ vs : List ℤ) (g : Held ℕ ℤ) (G : Gathers s l ts ws scope x at vs₀ vs g) (eight : length vs₀ ≡ 8) where
  pub pass_all : (k : ℕ) (ws' : List ℤ) → g ≡ Ok k → Gives ws x.base k vs ws' → Passes s l ts scope x at ws ws' (Ok tt)
  pass_all k ws' e W = record {
    says = λ σ S us U xs es i j m left T.
        let Y : InWords vs k (arguments_of σ us es m) = rw e at (G.says eight σ S us U xs es i j m T.holds) in
        record { values = Y.values; gives = Y.gives; stands = given-stands ws left m x.base k vs Y.values ws' T Y.ranged Y.count Y.same W };
  }

  pub pass-halted : (w : ℤ) → g ≡ Err w → SFits w64 w → Passes s l ts scope x at ws ws (Err (wire w))
  pass-halted w e f = rw (to_z-of_z f) (record {
    says = λ σ S us U xs es i j m left T.
        let Y : Broken w (arguments_of σ us es m) × (lt_z greatest w ≡ true) = rw e at (G.says eight σ S us U xs es i j m T.holds) in
        (Y.0, (Y.1, refl));
  })

pub ruleset pass_laws = (pass_all, pass-halted, sfits_of)

-- ---- `returning`, `take_back`

module _ (o : ℕ) where
  pub returns-normal : o < 4294967296 → true ≡ returns o
  unfolding returns pick
  returns-normal h = sym (ap (λ (b : Bool). pick b true (pick (ltb o 8589934592) false (ltb o 12884901888))) (lt-ltb o 4294967296 h))

  pub returns-spent : 4294967296 ≤ o → o < 8589934592 → false ≡ returns o
  unfolding returns pick
  returns-spent h g = sym (ap (λ (b : Bool). pick b true (pick (ltb o 8589934592) false (ltb o 12884901888))) (le-ltb o 4294967296 h) ∙ ap (λ (b : Bool). pick b false (ltb o 12884901888)) (lt-ltb o 8589934592 g))

  pub returns-raised : 8589934592 ≤ o → ltb o 12884901888 ≡ returns o
  unfolding returns pick
  returns-raised h = sym (ap (λ (b : Bool). pick b true (pick (ltb o 8589934592) false (ltb o 12884901888))) (le-ltb o 4294967296 (omega (arith, h))) ∙ ap (λ (b : Bool). pick b false (ltb o 12884901888)) (le-ltb o 8589934592 h))

pub ruleset returns_laws = (returns-normal, returns-spent, returns-raised)

module _ (x : Frame) (o : ℕ) (ws : List ℤ) (b : Bool) (e : b ≡ returns o) where
  pub takes_back : (ws' : List ℤ) → b ≡ true → Forgets ws x.base x.count ws' → TakesBack x o ws ws'
  takes_back ws' h F = record { gone = λ g. F; kept = λ g. absurd (true≢false (sym h ∙ e ∙ g)) }

  pub leaves : b ≡ false → TakesBack x o ws ws
  leaves h = record { gone = λ g. absurd (true≢false (sym g ∙ sym e ∙ h)); kept = λ g. refl }

pub ruleset back_laws = (takes_back, leaves)
