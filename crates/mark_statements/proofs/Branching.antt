-- The ways from a part to its statement and its head word, and through the statements that are no loops.
use mathlib.Core.Path.{◌≡◌, refl, sym, ap, subst, ◌∙◌}
use mathlib.Core.Bool.{Bool, true, false}
use mathlib.Core.List.{List}
use mathlib.Core.Option.{none, some}
use Prim.Native.Nat.{ℕ, zero, suc, ◌+◌, ◌-◌, ◌<◌, ◌≤◌}
use native.Mathlib.Omega.{arith}
use borrow.Author.Rules.{sfits_of}
use lib.IntN.{ℤ, pos, negsuc}
use lib.ListN.{take}
use lib.Signed.{lt_z}
use mir.Syntax.{w64}
use mir.Val.{SFits}
use mir.Facts.{to_z-of_z}
use Rattle.leaf_integers.specs.Integers.{inside}
use Rattle.leaf_integers.proofs.Machine.{wire}
use Rattle.leaf_words.specs.declared.words.Word.{Word}
use Rattle.leaf_words.specs.Words.{word_of}
use Rattle.law.specs.Calculate.{Result, is, is_true, case_error, ◌>>=◌}
use Rattle.law.specs.Environment.{Environment}
use Rattle.law.specs.Machine.{Store, State, state, Answer, answer, normal, Procs, branch, sole, while_rounds, with_result}
use Rattle.law.specs.Marking.{TypedValue, mark_arms, mark_condition, mark_expr, mark_stmt, require, wanted}
use Rattle.law.specs.Names.{stmt_of, arms_of}
use Rattle.law.specs.Script as Script
use Rattle.law.specs.Syntax as Syntax
use Rattle.law.specs.Syntax.{Stmt}
use Rattle.law.specs.Trees.{word, form, Trees, end, ◌then◌, Run, first, later, word_at}
use Rattle.law_theorems.specs.Readings.{stack_at}
use Rattle.law.specs.Types.{ordinal?}
use Rattle.law_theorems.proofs.Inversion.{none-some, some_inj}
use Rattle.text_heads.specs.declared.Verb.{Verb}
use Rattle.text_heads.specs.declared.Verb.TheVariants as VB
use Rattle.text_heads.specs.Heads.{verb_of}
use Rattle.text_heads.specs.Parts.{part_of, rest, expr_in, stmt_in, else_in, arms_in}
use Rattle.text_heads.proofs.Expressions.{expr-end}
use Rattle.text_heads.proofs.Statements.{stmt-end, stmt-zero, stmt-word, stmt-empty, stmt-headless}
use Rattle.std.specs.Prelude.{Option, Some, None}
use Rattle.text_parts.specs.declared.Part.{Part}
use Rattle.text_parts.specs.declared.Part.TheVariants as part
use Rattle.text_parts.specs.Parts as Parts
use Rattle.text_parts.specs.Parts.{Shuts}
use Rattle.text_skips.specs.Skips.{Skips}
use Rattle.mark_counts.specs.Statements.{CountsStatements}
use Rattle.mark_counts.proofs.Passing.{after-stmt}
use Rattle.rule_labels.specs.Blocks.{Held}
use Rattle.rule_statements.specs.Walks.{verb_in}
use Rattle.rule_statements.proofs.Shapes.{form-shape, none-shape}
use Rattle.mark_steps.specs.Ends.{left_in, step_word, Raises}
use Rattle.mark_steps.specs.Stands.{Stands, after}
use Rattle.code_calc.specs.Words.{greatest, InRange}
use Rattle.mark_cells.proofs.Ending.{left-most, raised-fewer, step-taken, step_fewer}
use Rattle.mark_values.specs.declared.values.Carried.{Carried}
use Rattle.mark_values.specs.Values.{Known}
use Rattle.mark_values.proofs.Carrying.{view-broken, view-value, carried-broken, carried-value}
use Rattle.mark_expressions.proofs.Inverting.{last-part}
use Rattle.mark_arms.specs.declared.Arm.{Arm}
use Rattle.mark_arms.specs.declared.Arm.TheVariants as chosen
use Rattle.mark_arms.specs.Arms.{StmtLeft, RaisesCase, Sticks, ChoosesBy, Chooses}
use Rattle.mark_acts.specs.Ends.{stuck_word, MarkEnds, MarkRuns, Halts}
use Rattle.mark_acts.specs.Acts.{Assigns, Raising, Conditions, Selects}
use Rattle.mark_acts.proofs.Ending.{normal-marks, raising-marks, stuck-marks, stuck-fewer, halts-ends, goes_on}
use Rattle.mark_acts.proofs.Shapes.{case-shape}
use Rattle.table_bodies.specs.Procedures.{procs_of}
use Rattle.mark_statements.specs.Marks.{Found, FoundExpr, Setting, machine, machines, testing, MarksStmt, MarksInner, MarksVerb, MarksElse, MarksWhile, MarksStmts}
use Rattle.mark_statements.proofs.Founding.{found_as, assign-found, raise-found, begin-found, while-found, if-found, case-found, found-spent, stmt-higher, past}
use Rattle.mark_statements.proofs.Machines.{step-spends, step-takes}
use Rattle.table_scope.specs.declared.Scope.{Scope}

fuel : (d : ℕ) → ((d ≡ 0) → ⊥) → suc (d - 1) ≡ d
fuel zero h = absurd (h refl)
fuel (suc d) h = omega arith

-- the form decides, not what stands after it
stmt-alone : (d n : ℕ) (us ts : Trees Run) → stmt_in d n (form us then ts) ≡ stmt_in d n (form us then end)
unfolding stmt_in part_of
stmt-alone d n us ts = refl

-- one machine runs as another that does the same
pub runs_as : {f g : State → Answer} {ws ws' : List ℤ} {left r : ℕ} → ((k : Store) → f (state k left) ≡ g (state k left)) → MarkRuns g ws left ws' r → MarkRuns f ws left ws' r
runs_as {f} {g} {ws} {ws'} {left} {r} e R = record { says = λ k S. subst (λ (a : Answer). MarkEnds a ws' r) (sym (e k)) (R.says k S) }

-- ---- the tables hold a setting's environment
abbrev pub known : {s l us ts tb : List ℕ} {scope : Scope} {calls : ℕ} (F : Setting s l us ts tb scope calls) → Known s l ts scope F.env
known F = record { top = F.top; bodies = take F.before F.places; scene = F.scene; small = F.small }

abbrev held : {s l us ts tb : List ℕ} {scope : Scope} {calls : ℕ} (F : Setting s l us ts tb scope calls) → Held s l scope F.env
held {s} {l} {us} {ts} F = record { ts = ts; top = F.top; bs = take F.before F.places; scene = F.scene }

module _ (s l us ts tb : List ℕ) (scope : Scope) (calls d n at : ℕ) (ws : List ℤ) (left : ℕ) where
  -- ---- `mark_stmt`
  no-stmt : stmt_in d n (first (stack_at s at)) ≡ none → MarksStmt s l us ts tb scope calls d n at ws left ws left
  no-stmt h = record { runs = λ F X. none-some (sym h ∙ X.reads); fewer = left-most left }

  pub stmt-deep : d ≡ 0 → MarksStmt s l us ts tb scope calls d n at ws left ws left
  stmt-deep h = no-stmt (rw h (stmt-zero n (first (stack_at s at))))

  module _ (x : Part) (c : Parts.Stands s at x) where
    pub stmt-leaf : (w : Word) (p q : ℕ) → x ≡ part.Leaf w p q → MarksStmt s l us ts tb scope calls d n at ws left ws left
    stmt-leaf w p q h = let f = rw h at c.says in no-stmt (rw f.0.leaf.here (stmt-word d n (word_at s p) (first (stack_at s q))))

    pub stmt-shut : (q : ℕ) → x ≡ part.Shut q → MarksStmt s l us ts tb scope calls d n at ws left ws left
    stmt-shut q h = let f = rw h at c.says in no-stmt (rw f.here (stmt-end d n))

    pub stmt-inner : (p : ℕ) (ws' : List ℤ) (r : ℕ) → ((d ≡ 0) → ⊥) → x ≡ part.Form p → MarksInner s l us ts tb scope calls (d - 1) n p ws left ws' r
        → MarksStmt s l us ts tb scope calls d n at ws left ws' r
    stmt-inner p ws' r z h I =
        let f = rw h at c.says in
        let e : stmt_in d n (first (stack_at s at)) ≡ stmt_in (suc (d - 1)) n (form (first (stack_at s p)) then end)
        = ap (stmt_in d n) f.here ∙ stmt-alone d n (first (stack_at s p)) (first (later (stack_at s p))) ∙ ap (λ (k : ℕ). stmt_in k n (form (first (stack_at s p)) then end)) (sym (fuel d z)) in
        record { runs = λ F X. I.runs F (found_as X (stmt_in (suc (d - 1)) n (form (first (stack_at s p)) then end)) e); fewer = I.fewer }

    -- ---- `inner`
    no_inner : stmt_in (suc d) n (form (first (stack_at s at)) then end) ≡ none → MarksInner s l us ts tb scope calls d n at ws left ws left
    no_inner h = record { runs = λ F X. none-some (sym h ∙ X.reads); fewer = left-most left }

    pub inner-shut : (q : ℕ) → x ≡ part.Shut q → MarksInner s l us ts tb scope calls d n at ws left ws left
    inner-shut q h = let f = rw h at c.says in no_inner (rw f.here (stmt-empty (suc d) n end))

    pub inner-form : (p : ℕ) → x ≡ part.Form p → MarksInner s l us ts tb scope calls d n at ws left ws left
    inner-form p h = let f = rw h at c.says in no_inner (rw f.here (stmt-headless (suc d) n (first (stack_at s p)) (first (later (stack_at s p))) end))

    module _ (w : Word) (p q : ℕ) (h : x ≡ part.Leaf w p q) (t : ℕ) (T : t ≡ step_word left) where
      here : first (stack_at s at) ≡ (word (word_at s p) then first (stack_at s q))
      here = (rw h at c.says).0.leaf.here

      as-verb : stmt_in (suc d) n (form (first (stack_at s at)) then end) ≡ verb_in (verb_of (word_of (word_at s p))) d (suc n) (first (stack_at s q))
      as-verb = ap (λ (vs : Trees Run). stmt_in (suc d) n (form vs then end)) here ∙ form-shape d n (word_at s p) (first (stack_at s q)) end

      pub inner-spent : 4294967295 < t → MarksInner s l us ts tb scope calls d n at ws left ws t
      inner-spent g = record {
        runs = λ F X. step-spends (machine F X.stmt) ws left t T
            (λ k. found-spent F.env d (suc n) (first (stack_at s q)) F.env.types F.env.vars (procs_of F.other F.bodies F.before) k (verb_of (word_of (word_at s p)))
            (found_as X (verb_in (verb_of (word_of (word_at s p))) d (suc n) (first (stack_at s q))) as-verb)) g;
        fewer = step_fewer left t T;
      }

      pub inner-verb : (n' : ℕ) (v : Verb) (ws' : List ℤ) (r : ℕ) → t ≤ 4294967295 → (n + 1 ≤ 4294967295 → n' ≡ n + 1) → v ≡ verb_of w → MarksVerb s l us ts tb scope calls v d n' q ws t ws' r
          → MarksInner s l us ts tb scope calls d n at ws left ws' r
      inner-verb n' v ws' r g M e Y = record {
        runs = λ F X. step-takes (machine F X.stmt) ws left t T ws' r g (Y.runs F (found_as X (verb_in v d n' (first (stack_at s q))) (as-verb ∙ same F.env X)));
        fewer = omega (arith, Y.fewer, step-taken left t T g);
      }
        where
          same : (σ : Environment) → Found σ (stmt_in (suc d) n (form (first (stack_at s at)) then end)) → verb_in (verb_of (word_of (word_at s p))) d (suc n) (first (stack_at s q)) ≡ verb_in v d n' (first (stack_at s q))
          same σ X =
              let a : n + 1 ≤ X.form.1 = stmt-higher d n (word_at s p) (first (stack_at s q)) X.form (ap (λ (vs : Trees Run). stmt_in (suc d) n (form vs then end)) (sym here) ∙ X.reads) in
              let b : n' ≡ n + 1 = M (omega (arith, a, X.few)) in
              let f : suc n ≡ n' = omega (arith, b) in
              ap (λ (k : ℕ). verb_in (verb_of (word_of (word_at s p))) d k (first (stack_at s q))) f
              ∙ ap (λ (y : Verb). verb_in y d n' (first (stack_at s q))) (ap verb_of (sym (rw h at c.says).1) ∙ sym e)

pub ruleset stmt-laws = (stmt-deep, stmt-leaf, stmt-shut, stmt-inner)

pub ruleset inner_laws = (inner-shut, inner-form, inner-spent, inner-verb)

-- ---- the machine after the step
module _ {s l us ts tb : List ℕ} {scope : Scope} {calls : ℕ} (F : Setting s l us ts tb scope calls) (n : ℕ) (k : Store) (left : ℕ) where
  begin-after : (ys : Script.Stmts) → after (machine F (Script.begin n ys)) (state k left) ≡ machines F ys (state k left)
  unfolding after mark_stmt
  begin-after ys = refl

  while-after : (e : Script.Expr) (y : Script.Stmt) → after (machine F (Script.while n e y)) (state k left) ≡ while_rounds left (testing F n e) (machine F y) (state k left)
  unfolding after mark_stmt
  while-after e y = refl

  if-after : (e : Script.Expr) (y z : Script.Stmt) → after (machine F (Script.if_else n e y z)) (state k left) ≡ testing F n e (state k left) (λ q. branch q (machine F y) (machine F z) (state k left))
  unfolding after mark_stmt
  if-after e y z = refl

-- ---- `headed`
module _ (s l us ts tb : List ℕ) (scope : Scope) (calls : ℕ) (v : Verb) (d n at : ℕ) (ws : List ℤ) (left : ℕ) (ws' : List ℤ) (r : ℕ) where
  pub verb-as : (k : Verb) → v ≡ k → MarksVerb s l us ts tb scope calls k d n at ws left ws' r → MarksVerb s l us ts tb scope calls v d n at ws left ws' r
  verb-as k e Y = rw e Y

  pub verb-assign : v ≡ VB.Assign → Assigns s l ts scope n at ws left ws' r → MarksVerb s l us ts tb scope calls v d n at ws left ws' r
  verb-assign h A = rw h (record {
    runs = λ F X. assign-found F.env d n (first (stack_at s at)) X (λ g e p x hg he hp hx q.
        subst (λ (y : Script.Stmt). MarkRuns (after (machine F y)) ws left ws' r) (sym q) (A.runs F.env (known F) g e p x hg he hp hx (procs_of F.other F.bodies F.before)));
    fewer = A.fewer;
  })

  pub verb-raise : v ≡ VB.Raise → Raising s l ts scope n at ws left ws' r → MarksVerb s l us ts tb scope calls v d n at ws left ws' r
  verb-raise h A = rw h (record {
    runs = λ F X. raise-found F.env d n (first (stack_at s at)) X (λ e x he hx q.
        subst (λ (y : Script.Stmt). MarkRuns (after (machine F y)) ws left ws' r) (sym q) (A.runs F.env (known F) e x he hx (procs_of F.other F.bodies F.before)));
    fewer = A.fewer;
  })

  pub verb-begin : v ≡ VB.Begin → MarksStmts s l us ts tb scope calls d n at ws left ws' r → MarksVerb s l us ts tb scope calls v d n at ws left ws' r
  verb-begin h A = rw h (record {
    runs = λ F X. begin-found F.env d n (first (stack_at s at)) X (λ Y q.
        subst (λ (y : Script.Stmt). MarkRuns (after (machine F y)) ws left ws' r) (sym q) (runs_as (λ k. begin-after F n k left Y.stmts) (A.runs F Y)));
    fewer = A.fewer;
  })

  pub verb-while : (q : ℕ) → v ≡ VB.While → Skips s at q → MarksWhile s l us ts tb scope calls d n at q ws left ws' r → MarksVerb s l us ts tb scope calls v d n at ws left ws' r
  verb-while q h Q A = rw h (record {
    runs = λ F X. while-found F.env d n (first (stack_at s at)) X (λ E Y j.
        subst (λ (y : Script.Stmt). MarkRuns (after (machine F y)) ws left ws' r) (sym j)
        (runs_as (λ k. while-after F n k left E.expr Y.stmt)
        (A.runs F E (found_as Y (stmt_in d n (first (stack_at s q))) (ap (stmt_in d n) (past Q (expr_in 33) E.form (expr-end 33) E.reads))) left (omega arith))));
    fewer = A.fewer;
  })

pub verb-nothing : (s l us ts tb : List ℕ) (scope : Scope) (calls : ℕ) (v : Verb) (d n at : ℕ) (ws : List ℤ) (left : ℕ) → v ≡ VB.Nothing → MarksVerb s l us ts tb scope calls v d n at ws left ws left
verb-nothing s l us ts tb scope calls v d n at ws left h =
    rw h (record { runs = λ F X. none-some (sym (none-shape d n (first (stack_at s at))) ∙ X.reads); fewer = left-most left })

pub ruleset verb-laws = (verb-as, verb-assign, verb-begin, verb-while, verb-raise, verb-nothing)

-- ---- tests
module _ {s l us ts tb : List ℕ} {scope : Scope} {calls : ℕ} (F : Setting s l us ts tb scope calls) (n c : ℕ) (E : FoundExpr F.env (expr_in 33 (first (stack_at s c)))) (ws : List ℤ) (t : ℕ) (x : ℤ)
    (C : Conditions s l ts ws scope c x) (k : Store) (S : Stands ws t k) where
  abbrev answered : Result (List ℤ)
  answered = mark_expr F.env.types F.env.vars E.expr k >>= wanted 1

  pub test-halts : (ws' : List ℤ) (r : ℕ) → lt_z greatest x ≡ true → Halts x n ws t ws' r → (f : Bool → Answer) → MarkEnds (testing F n E.expr (state k t) f) ws' r
  unfolding mark_condition
  test-halts ws' r h H f =
      halts-ends ws t k n answered x (λ u. f (is_true (sole u))) ws' r S
      (view-broken x answered (λ u. sole u) (C.says F.env (known F) E.form E.expr E.reads E.names k S.holds) h) H

  pub test-gives : lt_z greatest x ≡ false → (b : Bool) → is_true x ≡ b → (f : Bool → Answer) → testing F n E.expr (state k t) f ≡ f b
  unfolding mark_condition
  test-gives h b e f =
      view-value x answered (λ u. sole u) (C.says F.env (known F) E.form E.expr E.reads E.names k S.holds) h (λ u g w i.
      ap (λ (v : Result (List ℤ)). with_result n (state k t) v (λ u. f (is_true (sole u)))) g ∙ ap f (ap (λ (z : ℤ). is_true z) (sym w) ∙ e))

-- ---- `if`
module _ (s l us ts tb : List ℕ) (scope : Scope) (calls d n at : ℕ) (ws : List ℤ) (left : ℕ) (x : ℤ) (C : Conditions s l ts ws scope at x) (fx : SFits w64 x) (ws' : List ℤ) (r : ℕ) where
  if-from : left_in r ≤ left
      → ((F : Setting s l us ts tb scope calls) (E : FoundExpr F.env (expr_in 33 (first (stack_at s at)))) (A : Found F.env (stmt_in d n (rest (first (stack_at s at)))))
      (B : Found F.env (else_in d A.form.1 (rest (rest (first (stack_at s at)))))) (k : Store) → Stands ws left k
      → MarkEnds (testing F n E.expr (state k left) (λ q. branch q (machine F A.stmt) (machine F B.stmt) (state k left))) ws' r)
      → MarksVerb s l us ts tb scope calls VB.If d n at ws left ws' r
  if-from l f = record {
    runs = λ F X. if-found F.env d n (first (stack_at s at)) X (λ E A B j.
        subst (λ (y : Script.Stmt). MarkRuns (after (machine F y)) ws left ws' r) (sym j)
        (record { says = λ k S. subst (λ (a : Answer). MarkEnds a ws' r) (sym (if-after F n k left E.expr A.stmt B.stmt)) (f F E A B k S) }));
    fewer = l;
  }

  pub if-halts : lt_z greatest (wire x) ≡ true → Halts (wire x) n ws left ws' r → MarksVerb s l us ts tb scope calls VB.If d n at ws left ws' r
  if-halts h H = if-from H.fewer (λ F E A B k S. test-halts F n at E ws left x C k S ws' r (rw (to_z-of_z fx) at h) (rw (to_z-of_z fx) at H) (λ q. branch q (machine F A.stmt) (machine F B.stmt) (state k left)))

  module _ (h : lt_z greatest (wire x) ≡ false) (q : ℕ) (Q : Skips s at q) where
    if-gives : (b : Bool) → is_true x ≡ b → left_in r ≤ left
        → ((F : Setting s l us ts tb scope calls) (E : FoundExpr F.env (expr_in 33 (first (stack_at s at)))) (A : Found F.env (stmt_in d n (rest (first (stack_at s at)))))
        (B : Found F.env (else_in d A.form.1 (rest (rest (first (stack_at s at)))))) (k : Store) → Stands ws left k
        → MarkEnds (branch b (machine F A.stmt) (machine F B.stmt) (state k left)) ws' r)
        → MarksVerb s l us ts tb scope calls VB.If d n at ws left ws' r
    if-gives b e l f = if-from l (λ F E A B k S. subst (λ (a : Answer). MarkEnds a ws' r)
        (sym (test-gives F n at E ws left x C k S (rw (to_z-of_z fx) at h) b e (λ q. branch q (machine F A.stmt) (machine F B.stmt) (state k left)))) (f F E A B k S))

    -- the part after the test
    after_test : (F : Setting s l us ts tb scope calls) → FoundExpr F.env (expr_in 33 (first (stack_at s at))) → rest (first (stack_at s at)) ≡ first (stack_at s q)
    after_test F E = past Q (expr_in 33) E.form (expr-end 33) E.reads

    pub if-then : lt_z (pos 0) (wire x) ≡ true → MarksStmt s l us ts tb scope calls d n q ws left ws' r → MarksVerb s l us ts tb scope calls VB.If d n at ws left ws' r
    if-then g R = if-gives true (rw (to_z-of_z fx) at g) R.fewer (λ F E A B k S. (R.runs F (found_as A (stmt_in d n (first (stack_at s q))) (ap (stmt_in d n) (after_test F E)))).says k S)

    pub if-else : (c m p : ℕ) → lt_z (pos 0) (wire x) ≡ false → CountsStatements s q c → (n + c ≤ 4294967295 → m ≡ n + c) → Skips s q p → MarksElse s l us ts tb scope calls d m p ws left ws' r
        → MarksVerb s l us ts tb scope calls VB.If d n at ws left ws' r
    if-else c m p g K M P R = if-gives false (rw (to_z-of_z fx) at g) R.fewer (λ F E A B k S. (R.runs F (found_as B (else_in d m (first (stack_at s p))) (same F E A))).says k S)
      where
        same : (F : Setting s l us ts tb scope calls) (E : FoundExpr F.env (expr_in 33 (first (stack_at s at)))) (A : Found F.env (stmt_in d n (rest (first (stack_at s at)))))
            → else_in d A.form.1 (rest (rest (first (stack_at s at)))) ≡ else_in d m (first (stack_at s p))
        same F E A =
            let e : stmt_in d n (first (stack_at s q)) ≡ some A.form = ap (stmt_in d n) (sym (after_test F E)) ∙ A.reads in
            let i : A.form.1 ≡ n + c = after-stmt s q c K d n A.form e in
            let j : m ≡ n + c = M (omega (arith, i, A.few)) in
            ap (λ (y : ℕ). else_in d y (rest (rest (first (stack_at s at))))) (i ∙ sym j)
            ∙ ap (else_in d m) (ap rest (after_test F E) ∙ past P (stmt_in d n) A.form (stmt-end d n) e)

pub ruleset if-laws = (if-halts, if-then, if-else, sfits_of)

-- ---- `else_part`
module _ (s l us ts tb : List ℕ) (scope : Scope) (calls d n at : ℕ) (ws : List ℤ) (left : ℕ) (e : Option ℕ) (E : Shuts s at e) where
  skips-all : (F : Setting s l us ts tb scope calls) (t : State) → machine F Script.skip t ≡ answer normal t
  unfolding mark_stmt
  skips-all F t = refl

  pub else-none : (q : ℕ) → e ≡ Some q → MarksElse s l us ts tb scope calls d n at ws left ws left
  unfolding else_in stmt_of
  else-none q h = record {
    runs = λ F X.
        let f : (Syntax.skip, n) ≡ X.form = some_inj (rw (rw h at E.says).here at X.reads) in
        let y : Script.skip ≡ X.stmt = some_inj (ap (λ (p : Stmt × ℕ). stmt_of F.env p.0) f ∙ X.names) in
        record { says = λ k S. subst (λ (a : Answer). MarkEnds a ws left) (sym (ap (λ (z : Script.Stmt). machine F z (state k left)) (sym y) ∙ skips-all F (state k left))) (normal-marks ws left k S) };
    fewer = left-most left;
  }

  else-read : (us : Trees Run) (p : Stmt × ℕ) → ((us ≡ end) → ⊥) → else_in d n us ≡ some p → stmt_in d n us ≡ some p
  unfolding else_in stmt_in part_of
  else-read end p z h = absurd (z refl)
  else-read (t then ts) p z h = last-part _ ts p h

  pub else-some : (ws' : List ℤ) (r : ℕ) → e ≡ None → MarksStmt s l us ts tb scope calls d n at ws left ws' r → MarksElse s l us ts tb scope calls d n at ws left ws' r
  else-some ws' r h R = record {
    runs = λ F X. R.runs F (record { form = X.form; stmt = X.stmt; reads = else-read (first (stack_at s at)) X.form (rw h at E.says) X.reads; names = X.names; few = X.few });
    fewer = R.fewer;
  }

pub ruleset else-laws = (else-none, else-some)

-- ---- `case`
module _ (s l us ts tb : List ℕ) (scope : Scope) (calls d n at : ℕ) (ws : List ℤ) (left : ℕ) (x : Carried) (C : Selects s l ts ws scope at x) (fx : SFits w64 x.word) where
  module _ (F : Setting s l us ts tb scope calls) (E : FoundExpr F.env (expr_in 33 (first (stack_at s at)))) (k : Store) where
    abbrev selected : Result TypedValue
    selected = mark_expr F.env.types F.env.vars E.expr k >>= λ v. require (ordinal? F.env.types v.kind) (is v)

    abbrev chosen_by : Script.Arms → TypedValue → Answer
    chosen_by ys v = mark_arms F.env.types F.env.vars (procs_of F.other F.bodies F.before) n v.kind (sole v.cells) ys (state k left)

  case-from : (ws' : List ℤ) (r : ℕ) → left_in r ≤ left
      → ((F : Setting s l us ts tb scope calls) (E : FoundExpr F.env (expr_in 33 (first (stack_at s at)))) (bs : Syntax.Arms × ℕ) (ys : Script.Arms) (k : Store)
      → arms_in d n (rest (first (stack_at s at))) ≡ some bs → arms_of F.env bs.0 ≡ some ys → bs.1 ≤ 4294967295 → Stands ws left k → MarkEnds (with_result n (state k left) (selected F E k) (chosen_by F E k ys)) ws' r)
      → MarksVerb s l us ts tb scope calls VB.Case d n at ws left ws' r
  case-from ws' r g f = record {
    runs = λ F X. case-found F.env d n (first (stack_at s at)) X (λ E bs ys hb hy b j.
        subst (λ (y : Script.Stmt). MarkRuns (after (machine F y)) ws left ws' r) (sym j)
        (record {
          says = λ k S. subst (λ (a : Answer). MarkEnds a ws' r)
              (sym (case-shape F.env.types F.env.vars (procs_of F.other F.bodies F.before) k left n E.expr ys)) (f F E bs ys k hb hy b S);
        }));
    fewer = g;
  }

  pub case-halts : (ws' : List ℤ) (r : ℕ) → lt_z greatest (wire x.word) ≡ true → Halts (wire x.word) n ws left ws' r → MarksVerb s l us ts tb scope calls VB.Case d n at ws left ws' r
  case-halts ws' r h H = case-from ws' r H.fewer (λ F E bs ys k hb hy b S.
      halts-ends ws left k n (selected F E k) x.word (chosen_by F E k ys) ws' r S
      (carried-broken (C.says F.env (known F) E.form E.expr E.reads E.names k S.holds) (rw (to_z-of_z fx) at h)) (rw (to_z-of_z fx) at H))

  module _ (h : lt_z greatest (wire x.word) ≡ false) (q : ℕ) (Q : Skips s at q) (a : Arm) (A : Chooses s l scope x.kind (wire x.word) n q a) where
    taken : Chooses s l scope x.kind x.word n q a
    taken = rw (to_z-of_z fx) at A

    -- the arms for the selector's value
    module _ (F : Setting s l us ts tb scope calls) (ys : Script.Arms) where
      abbrev choosing : Procs → ℕ → State → Answer
      choosing ps n t = mark_arms F.env.types F.env.vars ps n x.kind x.word ys t

    case-by : (ws' : List ℤ) (r : ℕ) → left_in r ≤ left
        → ((F : Setting s l us ts tb scope calls) (ys : Script.Arms) (k : Store) → ChoosesBy s F.env d (choosing F ys) a → Stands ws left k
        → MarkEnds (choosing F ys (procs_of F.other F.bodies F.before) n (state k left)) ws' r)
        → MarksVerb s l us ts tb scope calls VB.Case d n at ws left ws' r
    case-by ws' r g f = case-from ws' r g (λ F E bs ys k hb hy b S.
        carried-value (C.says F.env (known F) E.form E.expr E.reads E.names k S.holds) (rw (to_z-of_z fx) at h) (λ v e w i kind.
        goes_on n (state k left) (selected F E k) v (chosen_by F E k ys) ws' r e
        (subst (λ (z : ℤ). MarkEnds (mark_arms F.env.types F.env.vars (procs_of F.other F.bodies F.before) n v.kind z ys (state k left)) ws' r) w
        (subst (λ (z : ℕ). MarkEnds (mark_arms F.env.types F.env.vars (procs_of F.other F.bodies F.before) n z x.word ys (state k left)) ws' r) kind
        (f F ys k (taken.says F.env (held F) d (choosing F ys) (record {
          read = bs;
          arms = ys;
          reads = ap (arms_in d n) (sym (past Q (expr_in 33) E.form (expr-end 33) E.reads)) ∙ hb;
          names = hy;
          few = b;
          same = λ ps n t. refl;
        })) S)))))

    pub case-taken : (p m : ℕ) (ws' : List ℤ) (r : ℕ) → a ≡ chosen.Taken p m → MarksStmt s l us ts tb scope calls d m p ws left ws' r → MarksVerb s l us ts tb scope calls VB.Case d n at ws left ws' r
    case-taken p m ws' r e R = case-by ws' r R.fewer (λ F ys k Y S. go F ys k (rw e at Y) S)
      where
        go : (F : Setting s l us ts tb scope calls) (ys : Script.Arms) (k : Store) → StmtLeft s F.env d m p (choosing F ys) → Stands ws left k
            → MarkEnds (choosing F ys (procs_of F.other F.bodies F.before) n (state k left)) ws' r
        go F ys k L S = subst (λ (v : Answer). MarkEnds v ws' r) (sym (L.same (procs_of F.other F.bodies F.before) n (state k left)))
            ((R.runs F (record { form = L.read; stmt = L.stmt; reads = L.reads; names = L.names; few = L.few })).says k S)

    pub case-absent : (ws' : List ℤ) (r : ℕ) → a ≡ chosen.Absent → Raises (negsuc 104) n ws left ws' r → MarksVerb s l us ts tb scope calls VB.Case d n at ws left ws' r
    unfolding InRange inside
    case-absent ws' r e R = case-by ws' r (raised-fewer (negsuc 104) n ws left ws' r R) (λ F ys k Y S. go F ys k (rw e at Y) S)
      where
        go : (F : Setting s l us ts tb scope calls) (ys : Script.Arms) (k : Store) → RaisesCase (choosing F ys) → Stands ws left k
            → MarkEnds (choosing F ys (procs_of F.other F.bodies F.before) n (state k left)) ws' r
        go F ys k L S = subst (λ (v : Answer). MarkEnds v ws' r) (sym (L.same (procs_of F.other F.bodies F.before) n (state k left))) (raising-marks ws left k S case_error n ws' r refl R)

    pub case-stuck : (r : ℕ) → a ≡ chosen.Stuck → r ≡ stuck_word left → MarksVerb s l us ts tb scope calls VB.Case d n at ws left ws r
    case-stuck r e R = case-by ws r (stuck-fewer left r R) (λ F ys k Y S. go F ys k (rw e at Y) S)
      where
        go : (F : Setting s l us ts tb scope calls) (ys : Script.Arms) (k : Store) → Sticks (choosing F ys) → Stands ws left k
            → MarkEnds (choosing F ys (procs_of F.other F.bodies F.before) n (state k left)) ws r
        go F ys k L S = subst (λ (v : Answer). MarkEnds v ws r) (sym (L.same (procs_of F.other F.bodies F.before) n (state k left))) (stuck-marks ws left k S r R)

pub ruleset case-laws = (case-halts, case-taken, case-absent, case-stuck, sfits_of)
