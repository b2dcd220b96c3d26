-- The rules of a statement by its verb, from those of its parts.
use mathlib.Core.Path.{◌≡◌, refl, sym, ap, ◌∙◌}
use mathlib.Core.Bool.{Bool, true, false, ◌&&◌}
use mathlib.Core.List.{List, ◌∷◌}
use mathlib.Core.Option.{none, some}
use Prim.Native.Nat.{ℕ, suc, ◌-◌, ◌<◌}
use native.Mathlib.Omega.{arith}
use Rattle.leaf_words.specs.declared.words.Word.{Word}
use Rattle.law.specs.Environment.{Environment}
use Rattle.law.specs.Names.{expr_of, stmt_of, stmts_of}
use Rattle.law.specs.Rules.{plain_expr, kept_stmt, kept_stmts}
use Rattle.law.specs.Script as Script
use Rattle.law.specs.Syntax as Syntax
use Rattle.law.specs.Trees.{Tree, form, Trees, end, ◌then◌, Run, first, later, word_at}
use Rattle.law_theorems.specs.Readings.{stack_at}
use Rattle.law_theorems.proofs.Inversion.{none-some, some_inj, bind-some}
use Rattle.text_heads.specs.declared.Verb.{Verb}
use Rattle.text_heads.specs.declared.Verb.TheVariants as VB
use Rattle.text_heads.specs.Heads.{verb_of}
use Rattle.text_heads.specs.Parts.{part_of, rest, expr_in, stmt_in, stmts_in, else_in}
use Rattle.text_heads.proofs.Statements.{stmt-end, stmt-zero, stmt-word, stmt-empty, stmt-headless}
use Rattle.text_parts.specs.declared.Part.{Part}
use Rattle.text_parts.specs.declared.Part.TheVariants as part
use Rattle.std.specs.Prelude.{Option, Some, None}
use Rattle.text_parts.specs.Parts.{LeafAt, FormAt, ShutAt, Stands, Shuts}
use Rattle.text_skips.specs.Skips.{Skips}
use Rattle.rule_constants.specs.Plain.{plain_first}
use Rattle.table_scope.specs.declared.Scope.{Scope}
use Rattle.table_scope.specs.declared.Loops.{Loops}
use Rattle.table_scope.specs.Loops.{with_loop}
use Rattle.rule_statements.specs.Chains.{many}
use Rattle.rule_statements.specs.Walks.{verb_in}
use Rattle.rule_statements.proofs.Shapes.{form-shape, none-shape, raise-shape, while-shape, if-shape, begin-shape}
use Rattle.std.specs.Prelude.{Option as Maybe, Some, None}
use Rattle.rule_restrictions.specs.Walks.{Near, KeepsStmt, KeepsInner, KeepsVerb, KeepsAssign, KeepsThen, KeepsElse, KeepsStmts}
use Rattle.rule_restrictions.specs.Calls.{KeepsCall}
use Rattle.rule_restrictions.specs.Control.{Steps, Starts}
use Rattle.rule_restrictions.proofs.Passing.{near-in, closed_is, split, expr-some, stmt-some, skip-then, skip-rest, skip-falls, expr-first}

-- ---- a statement by what stands there

module _ (s l : List ℕ) (scope : Scope) (loops : Loops) (d at : ℕ) where
  -- what is no statement has no rules
  no-stmt : (r : Bool) → ((n : ℕ) → stmt_in d n (first (stack_at s at)) ≡ none) → KeepsStmt s l scope loops d at r
  no-stmt r f = record { says = λ σ js N n p x h k. none-some (sym (f n) ∙ h) }

  pub stmt-deep : d ≡ 0 → KeepsStmt s l scope loops d at true
  stmt-deep e = no-stmt true λ n. ap (λ (c : ℕ). stmt_in c n (first (stack_at s at))) e ∙ stmt-zero n (first (stack_at s at))

  module _ (y : Part) (S : Stands s at y) where
    pub stmt-leaf : (w : Word) (p q : ℕ) → y ≡ part.Leaf w p q → KeepsStmt s l scope loops d at true
    stmt-leaf w p q e = no-stmt true λ n. let L : LeafAt s at p q = (rw e at S.says).0 in ap (stmt_in d n) L.leaf.here ∙ stmt-word d n (word_at s p) (first (stack_at s q))

    pub stmt-shut : (q : ℕ) → y ≡ part.Shut q → KeepsStmt s l scope loops d at true
    stmt-shut q e = no-stmt true λ n. let C : ShutAt s at q = rw e at S.says in ap (stmt_in d n) C.here ∙ stmt-end d n

    pub stmt-form : (p : ℕ) (r : Bool) → ((d ≡ 0) → ⊥) → y ≡ part.Form p → KeepsInner s l scope loops (d - 1) p r → KeepsStmt s l scope loops d at r
    unfolding stmt_in part_of
    stmt-form p r z e K = record {
      says = λ σ js N n v x h k.
          let F : FormAt s at p = rw e at S.says in
          let c : suc (d - 1) ≡ d = omega arith in
          K.says σ js (rw c N) n v x (ap (λ (c : ℕ). stmt_in c n (form (first (stack_at s p)) then end)) c ∙ ap (stmt_in d n) (sym F.here) ∙ h) k;
    }

    pub stmt-other : ((p : ℕ) → y ≡ part.Form p → ⊥) → KeepsStmt s l scope loops d at true
    stmt-other h = go y refl
      where
        go : (x : Part) → y ≡ x → KeepsStmt s l scope loops d at true
        go (part.Leaf w p q) e = stmt-leaf w p q e
        go (part.Form p) e = absurd (h p e)
        go (part.Shut q) e = stmt-shut q e

pub ruleset stmt-laws = (stmt-deep, stmt-other, stmt-form)

-- ---- inside its form

module _ (s l : List ℕ) (scope : Scope) (loops : Loops) (d at : ℕ) (y : Part) (S : Stands s at y) where
  pub inner-shut : (q : ℕ) → y ≡ part.Shut q → KeepsInner s l scope loops d at true
  inner-shut q e = record {
    says = λ σ js N n v x h k.
        let C : ShutAt s at q = rw e at S.says in
        none-some (sym (stmt-empty (suc d) n end) ∙ ap (λ (us : Trees Run). stmt_in (suc d) n (form us then end)) (sym C.here) ∙ h);
  }

  pub inner-form : (p : ℕ) → y ≡ part.Form p → KeepsInner s l scope loops d at true
  inner-form p e = record {
    says = λ σ js N n v x h k.
        let F : FormAt s at p = rw e at S.says in
        none-some (sym (stmt-headless (suc d) n (first (stack_at s p)) (first (later (stack_at s p))) end) ∙ ap (λ (us : Trees Run). stmt_in (suc d) n (form us then end)) (sym F.here) ∙ h);
  }

  pub inner-leaf : (w : Word) (p q : ℕ) (v : Verb) (r : Bool) → y ≡ part.Leaf w p q → v ≡ verb_of w → KeepsVerb s l scope loops v d q r → KeepsInner s l scope loops d at r
  inner-leaf w p q v r e f K = record {
    says = λ σ js N n u x h k.
        let g = rw e at S.says in
        K.says σ js N (suc n) u x
        (ap (λ (v : Verb). verb_in v d (suc n) (first (stack_at s q))) (f ∙ ap verb_of g.1) ∙ sym (form-shape d n (word_at s p) (first (stack_at s q)) end)
        ∙ ap (λ (us : Trees Run). stmt_in (suc d) n (form us then end)) (sym g.0.leaf.here) ∙ h) k;
  }

  pub inner-other : ((w : Word) (p q : ℕ) → y ≡ part.Leaf w p q → ⊥) → KeepsInner s l scope loops d at true
  inner-other h = go y refl
    where
      go : (x : Part) → y ≡ x → KeepsInner s l scope loops d at true
      go (part.Leaf w p q) e = absurd (h w p q e)
      go (part.Form p) e = inner-form p e
      go (part.Shut q) e = inner-shut q e

pub ruleset inner_laws = (inner-other, inner-leaf)

-- ---- by its verb

module _ (s l : List ℕ) (scope : Scope) (loops : Loops) (v : Verb) (d at : ℕ) (r : Bool) where
  pub verb-assign : v ≡ VB.Assign → KeepsAssign s l scope loops at r → KeepsVerb s l scope loops v d at r
  verb-assign e K = rw e (K.any d)

  pub verb-begin : v ≡ VB.Begin → KeepsStmts s l scope loops d at r → KeepsVerb s l scope loops v d at r
  unfolding stmt_of kept_stmt
  verb-begin e K = rw e (record {
    says = λ σ js N n p x h k.
        bind-some (sym (begin-shape d n (first (stack_at s at))) ∙ h) λ a ha q. bind-some (rw (← some_inj q) at k) λ xs hxs i. rw (← some_inj i) (K.says σ js (near-in N) n a xs ha hxs);
  })

  pub verb-same : (w : Verb) → v ≡ w → KeepsVerb s l scope loops w d at r → KeepsVerb s l scope loops v d at r
  verb-same w e K = rw e K

  pub verb-raise : v ≡ VB.Raise → r ≡ plain_first (first (stack_at s at)) → KeepsVerb s l scope loops v d at r
  unfolding stmt_of kept_stmt
  verb-raise e f = rw e (record {
    says = λ σ js N n p x h k.
        bind-some (sym (raise-shape d n (first (stack_at s at))) ∙ h) λ a ha q. bind-some ha λ b hb c. closed_is c λ z i. bind-some (rw (← some_inj q) at k) λ y hy j.
        rw (← some_inj j) (f ∙ sym (expr-first N (first (stack_at s at)) b y hb (ap (expr_of σ) i ∙ hy)));
  })

module _ (s l : List ℕ) (scope : Scope) (loops : Loops) (v : Verb) (d at : ℕ) where
  pub verb-call : v ≡ VB.Call → (r : Bool) → KeepsCall s l scope at r → KeepsVerb s l scope loops v d at r
  verb-call e r K = rw e (K.any loops d)

  pub verb-none : v ≡ VB.Nothing → KeepsVerb s l scope loops v d at true
  verb-none e = rw e (record { says = λ σ js N n p x h k. none-some (sym (none-shape d n (first (stack_at s at))) ∙ h) })

pub ruleset verb-laws = (verb-assign, verb-begin, verb-same, verb-raise, verb-call, verb-none)

-- ---- `while`

module _ (s l : List ℕ) (scope : Scope) (loops : Loops) (d at : ℕ) (t : Bool) (f : t ≡ plain_first (first (stack_at s at))) where
  abbrev us : Trees Run
  us = first (stack_at s at)

  tested : {c : ℕ} {σ : Environment} {js : List ℕ} → Near s l scope loops c σ js → (b : Bool) → t ≡ b → (x : Syntax.Expr) (e : Script.Expr) → expr_in 33 us ≡ some x → expr_of σ x ≡ some e → plain_expr e ≡ b
  tested N b g x e h k = expr-first N us x e h k ∙ sym f ∙ g

  whiled : (r b : Bool) → t ≡ b
      → ((σ : Environment) (js : List ℕ) → Near s l scope loops d σ js → (n : ℕ) (a : Syntax.Stmt × ℕ) (x : Script.Stmt) → (us ≡ end → ⊥) → stmt_in d n (rest us) ≡ some a → stmt_of σ a.0 ≡ some x → r ≡ (b && kept_stmt x js))
      → KeepsVerb s l scope loops VB.While d at r
  unfolding stmt_of kept_stmt
  whiled r b g F = record {
    says = λ σ js N n p x h k.
        bind-some (sym (while-shape d n us) ∙ h) λ e he h'. bind-some h' λ a ha q. bind-some ha λ a₀ ha₀ c. closed_is c λ z i.
        bind-some (rw (← some_inj q) at k) λ y hy k'. bind-some k' λ u hu j.
        rw (← some_inj j, tested N b g e y he hy) (F σ js (near-in N) n a₀ u (expr-some 33 he) ha₀ (ap (λ (p : Syntax.Stmt × ℕ). stmt_of σ p.0) i ∙ hu));
  }

  pub while-bad : t ≡ false → KeepsVerb s l scope loops VB.While d at t
  while-bad g = whiled t false g λ σ js N n a x z ha hx. g

  pub while-on : (q : ℕ) (r : Bool) → t ≡ true → Skips s at q → KeepsStmt s l scope loops d q r → KeepsVerb s l scope loops VB.While d at r
  while-on q r g S K = whiled r true g λ σ js N n a x z ha hx. K.says σ js N n a x (ap (stmt_in d n) (skip-rest S z) ∙ ha) hx

  -- ---- `if`

  branched : (r b : Bool) → t ≡ b
      → ((σ : Environment) (js : List ℕ) → Near s l scope loops d σ js → (n : ℕ) (a c : Syntax.Stmt × ℕ) (x y : Script.Stmt) → (us ≡ end → ⊥) → stmt_in d n (rest us) ≡ some a → else_in d a.1 (rest (rest us)) ≡ some c
      → stmt_of σ a.0 ≡ some x → stmt_of σ c.0 ≡ some y → r ≡ ((b && kept_stmt x js) && kept_stmt y js))
      → KeepsVerb s l scope loops VB.If d at r
  unfolding stmt_of kept_stmt
  branched r b g F = record {
    says = λ σ js N n p x h k.
        bind-some (sym (if-shape d n us) ∙ h) λ e he h'. bind-some h' λ a ha h''. bind-some h'' λ c hc q.
        bind-some (rw (← some_inj q) at k) λ y hy k'. bind-some k' λ u hu k''. bind-some k'' λ v hv j.
        rw (← some_inj j, tested N b g e y he hy) (F σ js (near-in N) n a c u v (expr-some 33 he) ha hc hu hv);
  }

  pub if-bad : t ≡ false → KeepsVerb s l scope loops VB.If d at t
  if-bad g = branched t false g λ σ js N n a c x y z ha hc hx hy. g

  pub if-on : (q : ℕ) (r : Bool) → t ≡ true → Skips s at q → KeepsThen s l scope loops d q r → KeepsVerb s l scope loops VB.If d at r
  if-on q r g S K = branched r true g λ σ js N n a c x y z ha hc hx hy.
      let e = skip-rest S z in K.says σ js N n a c x y (ap (stmt_in d n) e ∙ ha) (ap (λ (vs : Trees Run). else_in d a.1 (rest vs)) e ∙ hc) hx hy

pub ruleset while-laws = (while-bad, while-on)

pub ruleset if-laws = (if-bad, if-on)

module _ (s l : List ℕ) (scope : Scope) (loops : Loops) (d at : ℕ) (t : Bool) (K : KeepsStmt s l scope loops d at t) where
  pub then-bad : t ≡ false → KeepsThen s l scope loops d at t
  then-bad g = record { says = λ σ js N n p q x y hp hq hx hy. g ∙ sym (ap (λ (b : Bool). b && kept_stmt y js) (sym (K.says σ js N n p x hp hx) ∙ g)) }

  pub then-on : (q : ℕ) (r : Bool) → t ≡ true → Skips s at q → KeepsElse s l scope loops d q r → KeepsThen s l scope loops d at r
  then-on q r g S E = record {
    says = λ σ js N n p c x y hp hc hx hy.
        E.says σ js N p.1 c y (ap (else_in d p.1) (skip-rest S (stmt-some d n hp)) ∙ hc) hy ∙ sym (ap (λ (b : Bool). b && kept_stmt y js) (sym (K.says σ js N n p x hp hx) ∙ g));
  }

pub ruleset then-laws = (then-bad, then-on)

else-stmt : {P : Type 0} (d : ℕ) (t : Tree Run) (ts : Trees Run) (n : ℕ) (p : Syntax.Stmt × ℕ) → else_in d n (t then ts) ≡ some p → (stmt_in d n (t then ts) ≡ some p → P) → P
unfolding else_in stmt_in part_of
else-stmt d t ts n p h k = bind-some h λ a ha c. closed_is c λ z i. k (ha ∙ ap some i)

module _ (s l : List ℕ) (scope : Scope) (loops : Loops) (d at : ℕ) (e : Option ℕ) (E : Shuts s at e) where
  pub else-none : (q : ℕ) → e ≡ Some q → KeepsElse s l scope loops d at true
  unfolding else_in stmt_of kept_stmt
  else-none q f = record {
    says = λ σ js N n p x h k.
        let C : ShutAt s at q = rw f at E.says in
        let i : (Syntax.skip, n) ≡ p = some_inj (ap (else_in d n) (sym C.here) ∙ h) in
        let j : Script.skip ≡ x = some_inj (ap (λ (p : Syntax.Stmt × ℕ). stmt_of σ p.0) i ∙ k) in
        rw (← j) refl;
  }

  pub else-some : (r : Bool) → e ≡ None → KeepsStmt s l scope loops d at r → KeepsElse s l scope loops d at r
  else-some r f K = record { says = λ σ js N n p x h k. let m = rw f at E.says in split (first (stack_at s at)) m λ t ts g. inside t ts g σ js N n p x (ap (else_in d n) (sym g) ∙ h) k }
    where
      inside : (t : Tree Run) (ts : Trees Run) → first (stack_at s at) ≡ (t then ts) → (σ : Environment) (js : List ℕ) → Near s l scope loops d σ js → (n : ℕ) (p : Syntax.Stmt × ℕ) (x : Script.Stmt)
          → else_in d n (t then ts) ≡ some p → stmt_of σ p.0 ≡ some x → r ≡ kept_stmt x js
      inside t ts g σ js N n p x h k = else-stmt d t ts n p h λ hp. K.says σ js N n p x (ap (stmt_in d n) g ∙ hp) k

pub ruleset else-laws = (else-none, else-some)

-- ---- `for`

module _ (s l : List ℕ) (scope : Scope) (loops : Loops) (d at : ℕ) (x : Maybe (ℕ × ℕ)) (S : Starts s l scope loops at x) where
  pub for-broken : x ≡ None → KeepsVerb s l scope loops VB.For d at false
  for-broken e = record { says = λ σ js N n p y h k. let g = rw e at (S.says d σ js N n p y h k) in sym g }

  pub for-fine : (i q : ℕ) (w : Loops) (r : Bool) → x ≡ Some (i, q) → w ≡ with_loop loops i → KeepsStmt s l scope w d q r → KeepsVerb s l scope loops VB.For d at r
  for-fine i q w r e f K = record {
    says = λ σ js N n p y h k.
        let g : Steps s loops σ js d n y i q = rw e at (S.says d σ js N n p y h k) in
        K.says σ (i ∷ js) (record { held = N.held; in-force = rw f g.in-force; few-loops = let w = N.few-loops in omega arith }) n g.form g.inside g.read g.named ∙ sym g.kept;
  }

pub ruleset for-laws = (for-broken, for-fine)

-- ---- statements to the end of a form

-- those from `at` to p keep the rules
pub record Doing (s l : List ℕ) (scope : Scope) (loops : Loops) (d at p : ℕ) : Type 0 where
  pub done : (σ : Environment) (js : List ℕ) → Near s l scope loops d σ js → (n : ℕ) (v : Syntax.Stmts × ℕ) (xs : Script.Stmts) → stmts_in d n (first (stack_at s at)) ≡ some v → stmts_of σ v.0 ≡ some xs
      → (m : ℕ) × ((u : Syntax.Stmts × ℕ) × ((ys : Script.Stmts) × ((stmts_in d m (first (stack_at s p)) ≡ some u) × ((stmts_of σ u.0 ≡ some ys) × (kept_stmts xs js ≡ kept_stmts ys js)))))

pub do-start : (s l : List ℕ) (scope : Scope) (loops : Loops) (d at : ℕ) → Doing s l scope loops d at at
do-start s l scope loops d at = record { done = λ σ js N n v xs h k. (n, (v, (xs, (h, (k, refl))))) }

-- the first statement and the others
first-stmt : {P : Type 0} (σ : Environment) (js : List ℕ) (d m : ℕ) (t : Tree Run) (ts : Trees Run) (u : Syntax.Stmts × ℕ) (ys : Script.Stmts) → stmts_in d m (t then ts) ≡ some u → stmts_of σ u.0 ≡ some ys
    → ((a : Syntax.Stmt × ℕ) (x : Script.Stmt) (b : Syntax.Stmts × ℕ) (zs : Script.Stmts) → stmt_in d m (t then ts) ≡ some a → stmt_of σ a.0 ≡ some x → stmts_in d a.1 ts ≡ some b → stmts_of σ b.0 ≡ some zs
    → kept_stmts ys js ≡ (kept_stmt x js && kept_stmts zs js) → P) → P
unfolding stmts_in stmt_in part_of stmt_of kept_stmt
first-stmt σ js d m t ts u ys h k f = bind-some h λ a ha h'. bind-some h' λ b hb q. bind-some (rw (← some_inj q) at k) λ x hx k'. bind-some k' λ zs hzs j.
    f a x b zs ha hx hb hzs (ap (λ (v : Script.Stmts). kept_stmts v js) (sym (some_inj j)))

module _ (s l : List ℕ) (scope : Scope) (loops : Loops) (d at p : ℕ) (I : Doing s l scope loops d at p) (e : Option ℕ) (E : Shuts s p e) where
  pub do-end : (q : ℕ) → e ≡ Some q → KeepsStmts s l scope loops d at true
  unfolding stmts_in stmt_of kept_stmt
  do-end q f = record {
    says = λ σ js N n v xs h k.
        let C : ShutAt s p q = rw f at E.says in
        let i = I.done σ js N n v xs h k in
        let a : (Syntax.done, i.0) ≡ i.1.0 = some_inj (ap (stmts_in d i.0) (sym C.here) ∙ i.1.1.1.0) in
        let b : Script.done ≡ i.1.1.0 = some_inj (ap (λ (w : Syntax.Stmts × ℕ). stmts_of σ w.0) a ∙ i.1.1.1.1.0) in
        sym (i.1.1.1.1.1 ∙ ap (λ (w : Script.Stmts). kept_stmts w js) (sym b));
  }

  module _ (f : e ≡ None) (t : Bool) (K : KeepsStmt s l scope loops d p t) where
    more : first (stack_at s p) ≡ end → ⊥
    more = rw f at E.says

    pub do-bad : t ≡ false → KeepsStmts s l scope loops d at false
    do-bad g = record {
      says = λ σ js N n v xs h k.
          let i = I.done σ js N n v xs h k in
          split (first (stack_at s p)) more λ u us w.
          first-stmt σ js d i.0 u us i.1.0 i.1.1.0 (ap (stmts_in d i.0) (sym w) ∙ i.1.1.1.0) i.1.1.1.1.0 λ a x b zs ha hx hb hzs q.
          sym (i.1.1.1.1.1 ∙ q ∙ ap (λ (b : Bool). b && kept_stmts zs js) (sym (K.says σ js N i.0 a x (ap (stmt_in d i.0) w ∙ ha) hx) ∙ g));
    }

    pub do-on : (q : ℕ) → t ≡ true → Skips s p q → Doing s l scope loops d at q
    do-on q g S = record {
      done = λ σ js N n v xs h k.
          let i = I.done σ js N n v xs h k in
          split (first (stack_at s p)) more λ u us w.
          first-stmt σ js d i.0 u us i.1.0 i.1.1.0 (ap (stmts_in d i.0) (sym w) ∙ i.1.1.1.0) i.1.1.1.1.0 λ a x b zs ha hx hb hzs j.
          (a.1, (b, (zs, (ap (stmts_in d a.1) (skip-then S u us w) ∙ hb, (hzs, i.1.1.1.1.1 ∙ j ∙ ap (λ (b : Bool). b && kept_stmts zs js) (sym (K.says σ js N i.0 a x (ap (stmt_in d i.0) w ∙ ha) hx) ∙ g))))));
    }

pub ruleset do-laws = (do-end, do-bad, do-on)

pub do-falls : (s : List ℕ) (p q : ℕ) (e : Option ℕ) → Shuts s p e → e ≡ None → Skips s p q → many (first (stack_at s q)) < many (first (stack_at s p))
do-falls s p q e E f S = skip-falls S (rw f at E.says)
