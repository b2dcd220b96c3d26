-- The ways of an assignment and of the target that is assigned.
use mathlib.Core.Path.{◌≡◌, refl, sym, ap, ◌∙◌}
use mathlib.Core.Bool.{Bool, true, false, cond, not}
use mathlib.Core.List.{List, [], ◌∷◌, map}
use mathlib.Core.Option.{Option, none, some}
use Prim.Native.Nat.{ℕ, ◌≤◌}
use native.Mathlib.Omega.{arith}
use lib.Dec.{eqb}
use Rattle.leaf_words.specs.declared.words.Word.{Word}
use Rattle.leaf_bytes.specs.Bytes.{small}
use Rattle.leaf_words.specs.Words.{word_of}
use Rattle.law.specs.Base.{Name, ◌>>=◌, find}
use Rattle.law.specs.Elaborate.{Located}
use Rattle.law.specs.Environment.{Environment}
use Rattle.code.specs.Layout.{Out, lay, lay_place}
use Rattle.law.specs.Names.{var_of, target_of}
use Rattle.law.specs.Rules.{looping, steers}
use Rattle.law.specs.Script as Script
use Rattle.rule_stages.specs.Stages.{Staged, wrong, unnamed, unfit, fits, staged, named, kept_if, target_name, target_staged, assigned_staged}
use Rattle.law.specs.Syntax as Syntax
use Rattle.law.specs.Trees.{word, form, Trees, end, ◌then◌, Run, first, later, word_at}
use Rattle.law_theorems.specs.Readings.{stack_at}
use Rattle.law_theorems.proofs.Inversion.{none-some, some_inj, bind-some}
use Rattle.code.proofs.LayoutRegions.{lay-g}
use Rattle.code.specs.LayoutRegions.{Same}
use Rattle.rule_stages.proofs.OnePassStmts.{assigned-part, assigned-var}
use Rattle.text_heads.specs.declared.Atom.{Atom}
use Rattle.text_heads.specs.declared.Atom.TheVariants as AT
use Rattle.text_heads.specs.declared.ExprHead.{ExprHead}
use Rattle.text_heads.specs.declared.ExprHead.TheVariants as EH
use Rattle.text_heads.specs.Heads.{atom_of, atom_target, expr_head_of}
use Rattle.text_heads.specs.Parts.{rest, closed, expr_in, target_in, target_by}
use Rattle.text_heads.proofs.Heads.{target-word}
use Rattle.text_heads.proofs.Expressions.{target-form, target-end, target-empty, target-headless}
use Rattle.table_scope.specs.declared.Scope.{Scope}
use Rattle.rule_faults.specs.declared.Fault.{Fault}
use Rattle.rule_faults.specs.declared.Fault.TheVariants.{Clear, Kind, Name as Unnamed, Form}
use Rattle.table_scope.specs.declared.Loops.{Loops}
use Rattle.table_scope.specs.declared.Meaning.{Meaning}
use Rattle.table_scope.specs.declared.Meaning.TheVariants as meaning
use Rattle.table_scope.specs.Descriptions.{info_of}
use Rattle.table_scope.specs.Sides.{host_in}
use Rattle.table_scope.specs.Loops.{loops_over, InForce}
use Rattle.table_scope.specs.Scene as Scenes
use Rattle.table_scope.specs.Scene.{Scene, a-type, a-var, a-proc, a-value, meaning_here}
use Rattle.table_scope.proofs.Kept.{scene-kept}
use Rattle.table_scope.proofs.Telling.{meant}
use Rattle.rule_faults.specs.declared.Got.{Got}
use Rattle.text_parts.specs.declared.Part.{Part}
use Rattle.text_parts.specs.declared.Part.TheVariants as part
use Rattle.rule_faults.specs.Got.{lowest, is_form, failed_got, Told}
use Rattle.text_parts.specs.Parts.{LeafAt, FormAt, ShutAt, Stands}
use Rattle.rule_expr_nodes.specs.Bracket.{Closes}
use Rattle.rule_expr_nodes.specs.Nodes.{Makes, failed_made, node_made, if_clear}
use Rattle.rule_expressions.specs.Walks.{Moves, GivesExpr, GivesTarget}
use Rattle.rule_expressions.proofs.Joining.{wrong-fits, unnamed-fits, unfit-fits}
use Rattle.rule_stmt_nodes.specs.BaseNodes.{with_fault, steered}
use Rattle.rule_stmt_nodes.specs.Nodes.{stored, assigned}
use Rattle.rule_statements.specs.Walks.{GivesAssign, GivesStore}
use Rattle.rule_statements.proofs.Faults.{form-is, form-left, form-right, form-none, closes-leaves, same_refl, then-leaves, expr-closed}
use Rattle.rule_statements.proofs.Acts.{act-none}
use Rattle.rule_statements.proofs.Stores.{assign-act}
use Rattle.rule_statements.proofs.Shapes.{assign-shape}
use Rattle.rule_statements.proofs.Ways.{fail-moves, stop-leaves, none-bind}

-- ---- a variable's number

-- ---- one more rule of row 8

module _ {s : List ℕ} {at top : ℕ} {l : List ℕ} {g : Got} {l' : List ℕ} where
  ruled-moves : (b : Bool) → Moves s at top l g l' → Moves s at top l (cond b (with_fault g (lowest g.fault Kind)) g) l'
  ruled-moves false m = m
  ruled-moves true m = record { goes = λ e. m.goes (form-left g.fault Kind e); keeps = m.keeps; grows = m.grows }

  steered-moves : (w : Loops) (m : Meaning) → Moves s at top l g l' → Moves s at top l (steered w m g) l'
  steered-moves w meaning.Unknown v = v
  steered-moves w (meaning.Type k) v = v
  steered-moves w (meaning.Var i k a) v = ruled-moves (loops_over w i) v
  steered-moves w (meaning.Proc p) v = v
  steered-moves w (meaning.Value k n) v = v

steered-form : (w : Loops) (m : Meaning) (g : Got) → g.fault ≡ Form → (steered w m g).fault ≡ Form
steered-form w meaning.Unknown g e = e
steered-form w (meaning.Type k) g e = e
steered-form w (meaning.Var i k a) g e = go (loops_over w i)
  where
    go : (b : Bool) → (cond b (with_fault g (lowest g.fault Kind)) g).fault ≡ Form
    go true = rw e refl
    go false = e
steered-form w (meaning.Proc p) g e = e
steered-form w (meaning.Value k n) g e = e

module _ {A : Type 0} {K : A → ℕ} {L : A → ℕ → List ℕ → Out} {top : ℕ} {l : List ℕ} {g : Got} {l' : List ℕ} where
  kept-told : (b : Bool) (S : Staged A) → Told S K L top l g l' → Told (kept_if (not b) S) K L top l (cond b (with_fault g (lowest g.fault Kind)) g) l'
  unfolding kept_if
  kept-told b wrong t = record { fault-is = go b; laid = λ a h. absurd (wrong-fits h) }
    where
      go : (b : Bool) → (cond b (with_fault g (lowest g.fault Kind)) g).fault ≡ Form
      go true = rw t.fault-is refl
      go false = t.fault-is
  kept-told b unnamed t = record { fault-is = go b; laid = λ a h. absurd (unnamed-fits h) }
    where
      go : (b : Bool) → (cond b (with_fault g (lowest g.fault Kind)) g).fault ≡ Unnamed
      go true = rw t.fault-is refl
      go false = t.fault-is
  kept-told b unfit t = record { fault-is = go b; laid = λ a h. absurd (unfit-fits h) }
    where
      go : (b : Bool) → (cond b (with_fault g (lowest g.fault Kind)) g).fault ≡ Kind
      go true = rw t.fault-is refl
      go false = t.fault-is
  kept-told true (fits a) t = record { fault-is = rw t.fault-is refl; laid = λ a h. absurd (unfit-fits h) }
  kept-told false (fits a) t = record { fault-is = t.fault-is; laid = t.laid }

-- ---- a word alone

data VarOrNone (o : Option Syntax.Target) (w : Name) : Type 0 where
  no_target : o ≡ none → VarOrNone o w
  whole-var : o ≡ some (Syntax.var w) → VarOrNone o w

word-target : (a : Atom) (w : Name) → VarOrNone (atom_target a w) w
word-target (AT.Number z) w = no_target refl
word-target AT.Named w = whole-var refl
word-target (AT.Truth b) w = no_target refl
word-target AT.ErrorNumber w = no_target refl
word-target (AT.Base k) w = no_target refl
word-target AT.Nothing w = no_target refl

module _ {σ : Environment} {bs js : List ℕ} {loops : Loops} {top : ℕ} {l : List ℕ} {g : Got} {l' : List ℕ} (w : Name) (I : InForce loops js) where
  var-told : {m : Meaning} → Scenes.Told σ bs m (find σ.names w) → Told (target_staged σ (some (Syntax.var w))) (λ x. x.type) (λ x. lay_place x.place) top l g l'
      → Told (assigned_staged σ js (some (Syntax.var w))) (λ x. x.type) (λ x. lay_place x.place) top l (steered loops m g) l'
  unfolding target_staged assigned_staged staged named target_name target_of var_of ◌>>=◌
  var-told {m} t T = go (find σ.names w) refl t
    where
      go : {x : Meaning} (o : Option _) → find σ.names w ≡ o → Scenes.Told σ bs x o → Told (assigned_staged σ js (some (Syntax.var w))) (λ x. x.type) (λ x. lay_place x.place) top l (steered loops x g) l'
      go none e Scenes.unknown = rw e (rw e at T)
      go (some a) e (Scenes.known a-type) = rw e (rw e at T)
      go (some a) e (Scenes.known a-proc) = rw e (rw e at T)
      go (some a) e (Scenes.known a-value) = rw e (rw e at T)
      go (some a) e (Scenes.known (a-var {i} v h)) =
          rw (assigned-var σ js w i (rw (e, h) refl), I.in-force i) (kept-told (looping i js) (target_staged σ (some (Syntax.var w))) T)

-- ---- a target of several parts

data Part-of : Syntax.Target → Type 0 where
  an-element : (g : Syntax.Target) (e : Syntax.Expr) → Part-of (Syntax.at g e)
  a-field : (g : Syntax.Target) (w : Name) → Part-of (Syntax.dot g w)

closed_is : {A : Type 0} {a p : A} (ts : Trees Run) → closed ts a ≡ some p → a ≡ p
unfolding closed
closed_is end h = some_inj h
closed_is (t then ts) h = none-some h

by_part : (h : ExprHead) (d : ℕ) (us : Trees Run) (x : Syntax.Target) → target_by h d us ≡ some x → Part-of x
unfolding target_by
by_part EH.At d us x k = bind-some k λ g hg k'. bind-some k' λ e he i. rw (← closed_is (rest (rest us)) i) (an-element g e)
by_part EH.Dot d us x k = bind-some k λ g hg k'. bind-some k' λ w hw i. rw (← closed_is (rest (rest us)) i) (a-field g w)
by_part EH.Members d us x k = none-some k
by_part EH.Minus d us x k = none-some k
by_part (EH.Bound b) d us x k = none-some k
by_part (EH.Short q) d us x k = none-some k
by_part (EH.Two n) d us x k = none-some k
by_part (EH.One n) d us x k = none-some k
by_part EH.Nothing d us x k = none-some k

form-part : (us ts : Trees Run) (x : Syntax.Target) → target_in 33 (form us then ts) ≡ some x → Part-of x
form-part end ts x h = none-some (sym (target-empty 33 ts) ∙ h)
form-part (form us then vs) ts x h = none-some (sym (target-headless 33 us vs ts) ∙ h)
form-part (word w then us) ts x h = by_part (expr_head_of (word_of w)) 32 us x (sym (target-form 32 w us ts) ∙ h)

part-steers : (σ : Environment) (js : List ℕ) (x : Syntax.Target) (t : Script.Target) → Part-of x → target_name σ x ≡ some t → steers t js ≡ false
unfolding target_name target_of
part-steers σ js x t (an-element g e) h = bind-some h λ r hr i. bind-some hr λ q hq j. bind-some j λ y hy k. rw (← some_inj i, ← some_inj k) refl
part-steers σ js x t (a-field g w) h = bind-some h λ r hr i. bind-some hr λ q hq j. bind-some j λ y hy k. rw (← some_inj i, ← some_inj k) refl

-- ---- the ways

module _ (s l ts : List ℕ) (scope : Scope) (loops : Loops) (at top : ℕ) (x : Part) (S : Stands s at x) where
  pub store-shut : (q : ℕ) (r : Got) → x ≡ part.Shut q → r ≡ failed_got Form 0 q top → GivesStore s l ts scope loops at top r l
  unfolding assigned_staged staged
  store-shut q r h e =
      let L : ShutAt s at q = rw h at S.says in
      rw e (record { moves = fail-moves; says = λ σ bs js A I. rw (L.here, target-end 33) (record { told = record { fault-is = refl; laid = λ a z. absurd (wrong-fits z) } }) })

  pub store-form : (q : ℕ) (r : Got) (l' : List ℕ) → x ≡ part.Form q → GivesTarget s l ts scope 33 at top r l' → GivesStore s l ts scope loops at top r l'
  store-form q r l' h G =
      let F : FormAt s at q = rw h at S.says in
      record {
        moves = G.moves;
        says = λ σ bs js A I.
            let e = assigned-part σ js (target_in 33 (first (stack_at s at))) (λ y t ey et. part-steers σ js y t (form-part (first (stack_at s q)) (first (later (stack_at s q))) y (rw F.here at ey)) et) in
            record { told = rw e (G.says σ bs A).told };
      }

  pub store-leaf : (w : Word) (p q : ℕ) (m : Meaning) (g r : Got) (l' : List ℕ) → x ≡ part.Leaf w p q → m ≡ meaning_here s l scope p
      → GivesTarget s l ts scope 33 at top g l' → r ≡ steered loops m g → GivesStore s l ts scope loops at top r l'
  unfolding assigned_staged target_staged staged
  store-leaf w p q m g r l' h em G er =
      let X = rw h at S.says in
      let L : LeafAt s at p q = X.0 in
      let o : target_in 33 (first (stack_at s at)) ≡ atom_target (atom_of (word_of (word_at s p))) (map small (word_at s p)) = rw L.leaf.here (target-word 32 (word_at s p) (first (stack_at s q))) in
      rw er (record {
        moves = steered-moves loops m G.moves;
        says = λ σ bs js A I. record { told = go σ bs js I A (target_in 33 (first (stack_at s at))) (rw (← o) at (word-target (atom_of (word_of (word_at s p))) (map small (word_at s p)))) (G.says σ bs A).told };
      })
    where
      go : (σ : Environment) (bs js : List ℕ) → InForce loops js → Scene s l ts scope top σ bs → (o : Option Syntax.Target) → VarOrNone o (map small (word_at s p))
          → Told (target_staged σ o) (λ (x : Located). x.type) (λ (x : Located). lay_place x.place) top l g l' → Told (assigned_staged σ js o) (λ (x : Located). x.type) (λ (x : Located). lay_place x.place) top l (steered loops m g) l'
      go σ bs js I A o (no_target e) T = rw e (record { fault-is = steered-form loops m g (rw e at T).fault-is; laid = λ a z. absurd (wrong-fits z) })
      go σ bs js I A o (whole-var e) T = rw e (var-told (map small (word_at s p)) I (rw (← em) at (meant A (map small (word_at s p)))) (rw e at T))

assigned-leaves : (l ts : List ℕ) (n : ℕ) (g e r : Got) (l' : List ℕ) → Makes (assigned l ts n g e) r l' → (is_form r.fault ≡ false → is_form (lowest g.fault e.fault) ≡ false) × ((r.next ≡ e.next) × ((e.top ≤ r.top) × Same 0 e.top l' l))
unfolding assigned if_clear stored
assigned-leaves l ts n g e r l' m = go (lowest g.fault e.fault) m
  where
    none-laid : (f f' : Fault) → is_form f' ≡ is_form f → r ≡ failed_got f' n e.next e.top → l' ≡ l → (is_form r.fault ≡ false → is_form f ≡ false) × ((r.next ≡ e.next) × ((e.top ≤ r.top) × Same 0 e.top l' l))
    none-laid f f' h x y = rw (x, y) ((λ z. sym h ∙ z), (refl, (omega arith, same_refl)))

    stored_at : (b o z : Bool) → Makes (cond b (node_made n e.next (lay (cond o (43 ∷ n ∷ g.place ∷ e.place ∷ (info_of l ts g.kind).low ∷ (info_of l ts g.kind).high ∷ []) (cond z (44 ∷ n ∷ g.place ∷ e.place ∷ []) (52 ∷ n ∷ g.place ∷ e.place ∷ []))) e.top l)) (failed_made Kind n e.next e.top l)) r l'
        → (is_form r.fault ≡ false → is_form Clear ≡ false) × ((r.next ≡ e.next) × ((e.top ≤ r.top) × Same 0 e.top l' l))
    stored_at true o z m =
        let ns = cond o (43 ∷ n ∷ g.place ∷ e.place ∷ (info_of l ts g.kind).low ∷ (info_of l ts g.kind).high ∷ []) (cond z (44 ∷ n ∷ g.place ∷ e.place ∷ []) (52 ∷ n ∷ g.place ∷ e.place ∷ [])) in
        let G = lay-g ns e.top l in
        rw (m.given, m.left) ((λ y. refl), (refl, (G.up, record { at = λ j a b. G.below j b })))
    stored_at false o z m = none-laid Clear Kind refl m.given m.left

    go : (f : Fault) → Makes (if_clear f n e.next e.top l (stored l (info_of l ts g.kind) (host_in l ts g.kind) n g e)) r l' → (is_form r.fault ≡ false → is_form f ≡ false) × ((r.next ≡ e.next) × ((e.top ≤ r.top) × Same 0 e.top l' l))
    go Clear m = stored_at (eqb (host_in l ts g.kind) e.kind) (eqb (info_of l ts g.kind).shape 0) (eqb (info_of l ts g.kind).shape 1) m
    go Kind m = none-laid Kind Kind refl m.given m.left
    go Unnamed m = none-laid Unnamed Unnamed refl m.given m.left
    go Form m = none-laid Form Form refl m.given m.left

module _ (s l ts : List ℕ) (scope : Scope) (loops : Loops) (n at top : ℕ) (g : Got) (l₁ : List ℕ) (G : GivesStore s l ts scope loops at top g l₁) (t : Bool) (et : t ≡ is_form g.fault) where
  pub assign-wrong : t ≡ true → GivesAssign s l ts scope loops n at top g l₁
  unfolding assigned_staged
  assign-wrong h = record {
    any = λ d. record {
      leaves = stop-leaves G.moves (sym et ∙ h);
      says = λ σ bs js A.
          let z = (G.says σ bs js A.scene A.in-force).told.fault-is in
          act-none (assign-shape d n (first (stack_at s at)) ∙ none-bind _ (form-none (target_in 33 (first (stack_at s at))) _ _ _ (sym z ∙ form-is g.fault (sym et ∙ h)))) (sym et ∙ h);
    };
  }

  pub assign-both : (a e r : Got) (l₂ l' : List ℕ) → t ≡ false → GivesExpr s l₁ ts scope 33 g.next g.top a l₂ → Closes s a e → Makes (assigned l₂ ts n g e) r l' → GivesAssign s l ts scope loops n at top r l'
  assign-both a e r l₂ l' h E C k =
      let F : is_form g.fault ≡ false = sym et ∙ h in
      let N = assigned-leaves l₂ ts n g e r l' k in
      let V₁ = then-leaves G.moves F (closes-leaves E.moves C) in
      let R : rest (first (stack_at s at)) ≡ first (stack_at s g.next) = ap rest (G.moves.goes F).1.here in
      record {
        any = λ d. record {
          leaves = record {
            goes = λ z. V₁.goes (form-right g.fault e.fault (N.0 z)) ∙ ap (stack_at s) (sym N.1.0);
            keeps = record { at = λ i x y. N.1.1.1.at i x (let v = V₁.grows in omega arith) ∙ V₁.keeps.at i x y };
            grows = let v = V₁.grows in let u = N.1.1.0 in omega arith;
          };
          says = λ σ bs js A.
              let Sc = scene-kept (scene-kept A.scene G.moves.keeps G.moves.grows) E.moves.keeps E.moves.grows in
              rw (assign-shape d n (first (stack_at s at)), R)
              (assign-act σ bs js n top l s ts scope a.top g l₁ e l₂ Sc (target_in 33 (first (stack_at s at))) (expr_in 33 (first (stack_at s g.next)) >>= λ x. closed (rest (first (stack_at s g.next))) x) r l'
              (G.says σ bs js A.scene A.in-force)
              (expr-closed (expr_in 33 (first (stack_at s g.next))) E.moves C (E.says σ bs (scene-kept A.scene G.moves.keeps G.moves.grows))) k);
        };
      }

pub ruleset store-laws = (store-shut, store-form, store-leaf)

pub ruleset assign-laws = (assign-wrong, assign-both)
