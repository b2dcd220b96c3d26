-- What was found of a statement, by its head word: what was found of its parts, and what it is to the machine.
use mathlib.Core.Path.{◌≡◌, refl, sym, ap, subst, ◌∙◌}
use mathlib.Core.List.{List}
use mathlib.Core.Option.{Option, none, some}
use Prim.Native.Nat.{ℕ, suc, ◌+◌, ◌≤◌}
use native.Mathlib.Omega.{arith}
use Rattle.leaf_words.specs.Words.{word_of}
use Rattle.law.specs.Base.{Name, ◌>>=◌, find}
use Rattle.law.specs.Environment.{Environment}
use Rattle.law.specs.Forms.{arms_first}
use Rattle.law.specs.Machine.{Store, state, Answer, answer, spent, Procs}
use Rattle.law.specs.Marking.{mark_stmt}
use Rattle.law.specs.Names as Names
use Rattle.law.specs.Names.{as_proc, expr_of, exprs_of, target_of, var_of, stmt_of, stmts_of, arms_of}
use Rattle.law.specs.Script as Script
use Rattle.law.specs.Syntax as Syntax
use Rattle.law.specs.Syntax.{Stmt, Stmts, Arms, arm, else_arm, no_else}
use Rattle.law.specs.Trees.{word, form, Trees, end, ◌then◌, Run, first}
use Rattle.law_theorems.specs.Readings.{stack_at}
use Rattle.law.specs.Types.{Types, Vars}
use Rattle.law_theorems.proofs.Inversion.{none-some, some_inj, bind-some}
use Rattle.text_heads.specs.declared.Verb.{Verb}
use Rattle.text_heads.specs.declared.Verb.TheVariants as VB
use Rattle.text_heads.specs.Heads.{verb_of}
use Rattle.text_heads.specs.Parts.{rest, expr_in, exprs_in, target_in, name_in, stmt_in, stmts_in, else_in, arms_in}
use Rattle.text_skips.specs.Skips.{Skips}
use Rattle.mark_counts.specs.Statements.{one_for, head_verbs, verbs, verbs_in}
use Rattle.mark_counts.proofs.Numbers.{stmt-number, else-number}
use Rattle.rule_statements.specs.Walks.{verb_in, for_in}
use Rattle.rule_statements.proofs.Shapes as Shapes
use Rattle.mark_expressions.proofs.Inverting.{last-part}
use Rattle.mark_statements.specs.Marks.{Found, FoundAll, FoundExpr}

-- ---- what was read, known by another equation
module _ {σ : Environment} {o : Option (Stmt × ℕ)} (X : Found σ o) where
  pub named-as : {p : Stmt × ℕ} → p ≡ X.form → stmt_of σ p.0 ≡ some X.stmt
  named-as e = ap (λ (q : Stmt × ℕ). stmt_of σ q.0) e ∙ X.names

  pub number-as : {p : Stmt × ℕ} → p ≡ X.form → p.1 ≤ 4294967295
  number-as e = subst (λ (q : Stmt × ℕ). q.1 ≤ 4294967295) (sym e) X.few

  abbrev pub found_as : (o' : Option (Stmt × ℕ)) → o ≡ o' → Found σ o'
  found_as o' e = record { form = X.form; stmt = X.stmt; reads = sym e ∙ X.reads; names = X.names; few = X.few }

arms_same : (a b : Arms) → arms_first a ≡ some b → b ≡ a
unfolding arms_first
arms_same (else_arm s) b h = none-some h
arms_same no_else b h = none-some h
arms_same (arm cs s bs) b h = sym (some_inj h)

-- ---- a statement's parts
module _ (σ : Environment) (d m : ℕ) (us : Trees Run) {P : Type 0} where
  pub assign-found : (X : Found σ (verb_in VB.Assign d m us)) → ((g : Syntax.Target) (e : Syntax.Expr) (p : Names.Reached) (x : Script.Expr) → target_in 33 us ≡ some g → expr_in 33 (rest us) ≡ some e
      → target_of σ g ≡ some p → expr_of σ e ≡ some x → X.stmt ≡ Script.assign m p.target x → P) → P
  unfolding stmt_of
  assign-found X k = bind-some (sym (Shapes.assign-shape d m us) ∙ X.reads) λ g hg h. bind-some h λ e he i.
      bind-some (named-as X (some_inj i)) λ p hp f. bind-some f λ x hx j. k g e p x hg (last-part (expr_in 33 (rest us)) (rest (rest us)) e he) hp hx (sym (some_inj j))

  pub raise-found : (X : Found σ (verb_in VB.Raise d m us)) → ((e : Syntax.Expr) (x : Script.Expr) → expr_in 33 us ≡ some e → expr_of σ e ≡ some x → X.stmt ≡ Script.raise m x → P) → P
  unfolding stmt_of
  raise-found X k = bind-some (sym (Shapes.raise-shape d m us) ∙ X.reads) λ e he i.
      bind-some (named-as X (some_inj i)) λ x hx j. k e x (last-part (expr_in 33 us) (rest us) e he) hx (sym (some_inj j))

  pub call-found : (X : Found σ (verb_in VB.Call d m us))
      → ((w : Name) (es : Syntax.Exprs) (p : ℕ × List ℕ) (xs : Script.Exprs) → name_in us ≡ some w → exprs_in 33 (rest us) ≡ some es → (find σ.names w >>= as_proc) ≡ some p → exprs_of σ es ≡ some xs
      → X.stmt ≡ Script.call m p.0 p.1 xs → P) → P
  unfolding stmt_of
  call-found X k = bind-some (sym (Shapes.call_shape d m us) ∙ X.reads) λ w hw h. bind-some h λ es he i.
      bind-some (named-as X (some_inj i)) λ p hp f. bind-some f λ xs hx j. k w es p xs hw he hp hx (sym (some_inj j))

  pub begin-found : (X : Found σ (verb_in VB.Begin d m us)) → ((A : FoundAll σ (stmts_in d m us)) → X.stmt ≡ Script.begin m A.stmts → P) → P
  unfolding stmt_of
  begin-found X k = bind-some (sym (Shapes.begin-shape d m us) ∙ X.reads) λ p hp i.
      bind-some (named-as X (some_inj i)) λ ys hy j. k (record { form = p; stmts = ys; reads = hp; names = hy; few = number-as X (some_inj i) }) (sym (some_inj j))

  pub while-found : (X : Found σ (verb_in VB.While d m us)) → ((E : FoundExpr σ (expr_in 33 us)) (A : Found σ (stmt_in d m (rest us))) → X.stmt ≡ Script.while m E.expr A.stmt → P) → P
  unfolding stmt_of
  while-found X k = bind-some (sym (Shapes.while-shape d m us) ∙ X.reads) λ e he h. bind-some h λ a ha i.
      bind-some (named-as X (some_inj i)) λ x hx f. bind-some f λ y hy j.
      k (record { form = e; expr = x; reads = he; names = hx })
      (record { form = a; stmt = y; reads = last-part (stmt_in d m (rest us)) (rest (rest us)) a ha; names = hy; few = number-as X (some_inj i) }) (sym (some_inj j))

  pub if-found : (X : Found σ (verb_in VB.If d m us))
      → ((E : FoundExpr σ (expr_in 33 us)) (A : Found σ (stmt_in d m (rest us))) (B : Found σ (else_in d A.form.1 (rest (rest us)))) → X.stmt ≡ Script.if_else m E.expr A.stmt B.stmt → P) → P
  unfolding stmt_of
  if-found X k = bind-some (sym (Shapes.if-shape d m us) ∙ X.reads) λ e he h. bind-some h λ a ha h. bind-some h λ b hb i.
      bind-some (named-as X (some_inj i)) λ x hx f. bind-some f λ y hy f. bind-some f λ z hz j.
      let n : b.1 ≡ a.1 + verbs_in (rest (rest us)) = else-number d a.1 (rest (rest us)) b hb in
      let l : b.1 ≤ 4294967295 = number-as X (some_inj i) in
      k (record { form = e; expr = x; reads = he; names = hx }) (record { form = a; stmt = y; reads = ha; names = hy; few = omega (arith, n, l) })
      (record { form = b; stmt = z; reads = hb; names = hz; few = l }) (sym (some_inj j))

  pub for-found : (X : Found σ (verb_in VB.For d m us))
      → ((w : Name) (i : ℕ) (A : FoundExpr σ (expr_in 33 (rest us))) (B : FoundExpr σ (expr_in 33 (rest (rest us)))) (C : Found σ (stmt_in d m (rest (rest (rest us)))))
      → name_in us ≡ some w → var_of σ w ≡ some i → X.stmt ≡ Script.for m i A.expr B.expr C.stmt → P) → P
  unfolding stmt_of for_in
  for-found X k = bind-some (sym (Shapes.for-shape d m us) ∙ X.reads) λ w hw h. bind-some h λ a ha h. bind-some h λ b hb h. bind-some h λ c hc i.
      bind-some (named-as X (some_inj i)) λ v hv f. bind-some f λ x hx f. bind-some f λ y hy f. bind-some f λ z hz j.
      k w v (record { form = a; expr = x; reads = ha; names = hx }) (record { form = b; expr = y; reads = hb; names = hy })
      (record { form = c; stmt = z; reads = last-part (stmt_in d m (rest (rest (rest us)))) (rest (rest (rest (rest us)))) c hc; names = hz; few = number-as X (some_inj i) }) hw hv (sym (some_inj j))

  pub case-found : (X : Found σ (verb_in VB.Case d m us))
      → ((E : FoundExpr σ (expr_in 33 us)) (bs : Arms × ℕ) (ys : Script.Arms) → arms_in d m (rest us) ≡ some bs → arms_of σ bs.0 ≡ some ys → bs.1 ≤ 4294967295 → X.stmt ≡ Script.case m E.expr ys → P) → P
  unfolding stmt_of
  case-found X k = bind-some (sym (Shapes.case-shape d m us) ∙ X.reads) λ e he h. bind-some h λ bs hb h. bind-some h λ cs hc i.
      bind-some (named-as X (some_inj i)) λ x hx f. bind-some f λ ys hy j.
      k (record { form = e; expr = x; reads = he; names = hx }) bs ys hb (subst (λ (v : Arms). arms_of σ v ≡ some ys) (arms_same bs.0 cs hc) hy) (number-as X (some_inj i)) (sym (some_inj j))

-- ---- every statement that was read takes a step first
module _ (σ : Environment) (d m : ℕ) (us : Trees Run) (Γ : Types) (Δ : Vars) (ps : Procs) (k : Store) where
  abbrev idle : Script.Stmt → Answer
  idle y = mark_stmt Γ Δ ps y (state k 0)

  abbrev Idle : Script.Stmt → Type 0
  Idle y = idle y ≡ answer spent (state k 0)

  assign-idle : (n : ℕ) (g : Script.Target) (e : Script.Expr) → Idle (Script.assign n g e)
  unfolding mark_stmt
  assign-idle n g e = refl

  begin-idle : (n : ℕ) (ys : Script.Stmts) → Idle (Script.begin n ys)
  unfolding mark_stmt
  begin-idle n ys = refl

  if-idle : (n : ℕ) (e : Script.Expr) (y z : Script.Stmt) → Idle (Script.if_else n e y z)
  unfolding mark_stmt
  if-idle n e y z = refl

  while-idle : (n : ℕ) (e : Script.Expr) (y : Script.Stmt) → Idle (Script.while n e y)
  unfolding mark_stmt
  while-idle n e y = refl

  for-idle : (n i : ℕ) (e f : Script.Expr) (y : Script.Stmt) → Idle (Script.for n i e f y)
  unfolding mark_stmt
  for-idle n i e f y = refl

  case-idle : (n : ℕ) (e : Script.Expr) (ys : Script.Arms) → Idle (Script.case n e ys)
  unfolding mark_stmt
  case-idle n e ys = refl

  call-idle : (n p : ℕ) (vs : List ℕ) (xs : Script.Exprs) → Idle (Script.call n p vs xs)
  unfolding mark_stmt
  call-idle n p vs xs = refl

  raise-idle : (n : ℕ) (e : Script.Expr) → Idle (Script.raise n e)
  unfolding mark_stmt
  raise-idle n e = refl

  pub found-spent : (v : Verb) (X : Found σ (verb_in v d m us)) → mark_stmt Γ Δ ps X.stmt (state k 0) ≡ answer spent (state k 0)
  found-spent VB.Assign X = assign-found σ d m us X (λ g e p x hg he hp hx q. ap idle q ∙ assign-idle m p.target x)
  found-spent VB.Begin X = begin-found σ d m us X (λ A q. ap idle q ∙ begin-idle m A.stmts)
  found-spent VB.If X = if-found σ d m us X (λ E A B q. ap idle q ∙ if-idle m E.expr A.stmt B.stmt)
  found-spent VB.While X = while-found σ d m us X (λ E A q. ap idle q ∙ while-idle m E.expr A.stmt)
  found-spent VB.For X = for-found σ d m us X (λ w i A B C hw hi q. ap idle q ∙ for-idle m i A.expr B.expr C.stmt)
  found-spent VB.Case X = case-found σ d m us X (λ E bs ys hb hy l q. ap idle q ∙ case-idle m E.expr ys)
  found-spent VB.Call X = call-found σ d m us X (λ w es p xs hw he hp hx q. ap idle q ∙ call-idle m p.0 p.1 xs)
  found-spent VB.Raise X = raise-found σ d m us X (λ e x he hx q. ap idle q ∙ raise-idle m x)
  found-spent VB.Nothing X = none-some (sym (Shapes.none-shape d m us) ∙ X.reads)

-- ---- and counts for one
verb-one : (d m : ℕ) (us : Trees Run) (v : Verb) (p : Stmt × ℕ) → verb_in v d m us ≡ some p → 1 ≤ one_for v
verb-one d m us VB.Assign p h = omega arith
verb-one d m us VB.Begin p h = omega arith
verb-one d m us VB.If p h = omega arith
verb-one d m us VB.While p h = omega arith
verb-one d m us VB.For p h = omega arith
verb-one d m us VB.Case p h = omega arith
verb-one d m us VB.Call p h = omega arith
verb-one d m us VB.Raise p h = omega arith
verb-one d m us VB.Nothing p h = none-some (sym (Shapes.none-shape d m us) ∙ h)

pub stmt-higher : (d n : ℕ) (w : Run) (us : Trees Run) (p : Stmt × ℕ) → stmt_in (suc d) n (form (word w then us) then end) ≡ some p → n + 1 ≤ p.1
unfolding verbs head_verbs
stmt-higher d n w us p h =
    let a : p.1 ≡ n + (one_for (verb_of (word_of w)) + verbs_in (word w then us)) = stmt-number (form (word w then us)) end (suc d) n p h in
    let b : 1 ≤ one_for (verb_of (word_of w)) = verb-one d (suc n) us (verb_of (word_of w)) p (sym (Shapes.form-shape d n w us end) ∙ h) in
    omega (arith, a, b)

-- ---- the part after a statement, a name or an expression that was read
module _ {s : List ℕ} {at q : ℕ} (Q : Skips s at q) where
  pub past : {A : Type 0} (f : Trees Run → Option A) (a : A) → f end ≡ none → f (first (stack_at s at)) ≡ some a → rest (first (stack_at s at)) ≡ first (stack_at s q)
  past {A} f a n h = go (first (stack_at s at)) refl h
    where
      go : (us : Trees Run) → first (stack_at s at) ≡ us → f us ≡ some a → rest us ≡ first (stack_at s q)
      go end e k = none-some (sym n ∙ k)
      go (t then ts) e k = ap rest (sym e ∙ (Q.says t ts e).here)
