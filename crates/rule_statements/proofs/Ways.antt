-- The ways through the walk over statements.
use mathlib.Core.Path.{◌≡◌, refl, sym, ap, ◌∙◌}
use mathlib.Core.Bool.{Bool, true, false, true≢false}
use mathlib.Core.List.{List, map}
use mathlib.Core.Option.{Option, none, some}
use Prim.Native.Nat.{ℕ, suc, ◌+◌, ◌-◌, ◌≤◌}
use native.Mathlib.Omega.{arith}
use borrow.Author.Tests.{lt-ltb}
use Rattle.leaf_words.specs.declared.words.Word.{Word}
use Rattle.leaf_bytes.specs.Bytes.{small}
use Rattle.leaf_words.specs.Words.{word_of}
use Rattle.law.specs.Base.{Name, ◌>>=◌}
use Rattle.law.specs.Environment.{Environment}
use Rattle.rule_stages.specs.Stages.{wanted_staged}
use Rattle.law.specs.Syntax as Syntax
use Rattle.law.specs.Trees.{word, form, Trees, end, ◌then◌, Run, first, later, nodes, nodes_in, word_at}
use Rattle.law_theorems.specs.Readings.{stack_at}
use Rattle.text_heads.specs.declared.Atom.{Atom}
use Rattle.text_heads.specs.declared.Atom.TheVariants as AT
use Rattle.text_heads.specs.declared.Verb.{Verb}
use Rattle.text_heads.specs.declared.Verb.TheVariants as VB
use Rattle.text_heads.specs.Heads.{verb_of, atom_of, atom_name}
use Rattle.text_heads.specs.Parts.{part_of, rest, closed, expr_in, exprs_in, name_in, stmt_in, else_in}
use Rattle.text_heads.proofs.Heads.{name-word}
use Rattle.text_heads.proofs.Expressions.{name-form}
use Rattle.text_heads.proofs.Statements.{stmt-end, stmt-zero, stmt-word, stmt-empty, stmt-headless}
use Rattle.table_scope.specs.declared.Scope.{Scope}
use Rattle.rule_faults.specs.declared.Fault.TheVariants.{Form}
use Rattle.table_scope.specs.declared.Loops.{Loops}
use Rattle.rule_statements.proofs.Chains.{none_of}
use Rattle.table_scope.proofs.Kept.{scene-kept}
use Rattle.rule_faults.specs.declared.Got.{Got}
use Rattle.text_parts.specs.declared.Part.{Part}
use Rattle.text_parts.specs.declared.Part.TheVariants as part
use Rattle.std.specs.Prelude.{Option as Maybe, Some, None}
use Rattle.rule_faults.specs.Got.{lowest, is_form, failed_got}
use Rattle.text_parts.specs.Parts.{LeafAt, FormAt, ShutAt, Stands, Shuts}
use Rattle.rule_expr_nodes.specs.Bracket.{Closes}
use Rattle.rule_expr_nodes.specs.Nodes.{Makes}
use Rattle.rule_expressions.specs.Walks.{Moves, Leaves, GivesExpr}
use Rattle.rule_stmt_nodes.specs.Nodes.{next_number, wanted_got, raised, looped, branched, skip_got, is_named}
use Rattle.rule_statements.specs.Walks.{WantTold, Around, GivesStmt, GivesInner, verb_in, GivesVerb, GivesAssign, GivesRaise, GivesCall, GivesElse, GivesWanted, then_in, GivesThen}
use Rattle.rule_statements.specs.Arguments.{GivesCallNamed}
use Rattle.rule_statements.proofs.Faults.{form-is, form-right, form-none, closes-leaves, same_refl, then-leaves, node_of, node-leaves, want-told, wanted-moves, wanted-leaves, expr-closed, act-closed}
use Rattle.rule_statements.proofs.Acts.{act-none, some_of, raise-act, while-act, if-act, skip-act}
use Rattle.rule_statements.proofs.Shapes.{form-shape, none-shape, raise-shape, call_shape, while-shape, if-shape, stmt-count}

-- ---- faults of row 6

pub fail-moves : {s : List ℕ} {at top k q : ℕ} {l : List ℕ} → Moves s at top l (failed_got Form k q top) l
fail-moves = record { goes = λ h. absurd (true≢false h); keeps = same_refl; grows = omega arith }

pub fail-leaves : {s : List ℕ} {at top k q : ℕ} {l : List ℕ} → Leaves s at top l (failed_got Form k q top) l
fail-leaves = record { goes = λ h. absurd (true≢false h); keeps = same_refl; grows = omega arith }

pub stop-leaves : {s : List ℕ} {at top : ℕ} {l : List ℕ} {g : Got} {l' : List ℕ} → Moves s at top l g l' → is_form g.fault ≡ true → Leaves s at top l g l'
stop-leaves m h = record { goes = λ e. absurd (true≢false (sym h ∙ e)); keeps = m.keeps; grows = m.grows }

pub none-bind : {A B : Type 0} {o : Option A} (f : A → Option B) → o ≡ none → (o >>= f) ≡ none
unfolding ◌>>=◌
none-bind f e = rw e refl

some-bind : {A B : Type 0} {o : Option A} {a : A} (f : A → Option B) → o ≡ some a → (o >>= f) ≡ f a
unfolding ◌>>=◌
some-bind f e = rw e refl

pub want-none : {σ : Environment} {k : ℕ} {o : Option Syntax.Expr} {top : ℕ} {l : List ℕ} {g : Got} {l' : List ℕ} → WantTold σ k o top l g l' → is_form g.fault ≡ true → o ≡ none
unfolding wanted_staged
want-none {o} w h = form-none o _ _ _ (sym w.fault-is ∙ form-is _ h)

-- ---- parts

parted : (n d : ℕ) (us vs : Trees Run) → stmt_in d n (form us then vs) ≡ stmt_in d n (form us then end)
unfolding stmt_in part_of
parted n d us vs = refl

-- an `if` from its parts
abbrev if_read : ℕ → Syntax.Expr → Syntax.Stmt × ℕ → Syntax.Stmt × ℕ → Option (Syntax.Stmt × ℕ)
if_read n x y z = some (Syntax.if_else n x y.0 z.0, z.1)

both-none : (d n : ℕ) (us vs : Trees Run) (o : Option Syntax.Expr) → stmt_in d n us ≡ none → (o >>= λ x. stmt_in d n us >>= λ y. else_in d y.1 vs >>= λ z. if_read n x y z) ≡ none
unfolding ◌>>=◌
both-none d n us vs none h = refl
both-none d n us vs (some x) h = rw h refl

-- the first branch is read: the number that the second begins with
if-fixed : (d n : ℕ) (o : Option Syntax.Expr) (p : Option (Syntax.Stmt × ℕ)) (a : Syntax.Stmt × ℕ) → p ≡ some a → (k : ℕ) → k ≡ a.1 → (us : Trees Run)
    → (o >>= λ x. p >>= λ y. else_in d y.1 us >>= λ z. if_read n x y z) ≡ (o >>= λ x. p >>= λ y. else_in d k us >>= λ z. if_read n x y z)
unfolding ◌>>=◌
if-fixed d n none p a h k e us = refl
if-fixed d n (some x) p a h k e us = rw (h, e) refl

else-some : (d n : ℕ) (us : Trees Run) → (us ≡ end → ⊥) → else_in d n us ≡ (stmt_in d n us >>= λ p. closed (rest us) p)
unfolding else_in stmt_in part_of
else-some d n end z = absurd (z refl)
else-some d n (t then ts) z = refl

pub name-end : name_in end ≡ none
unfolding name_in part_of ◌>>=◌
name-end = refl

pub no_name : (a : Atom) (w : Name) → is_named a ≡ false → atom_name a w ≡ none
no_name (AT.Number z) w h = refl
no_name AT.Named w h = absurd (true≢false h)
no_name (AT.Truth b) w h = refl
no_name AT.ErrorNumber w h = refl
no_name (AT.Base k) w h = refl
no_name AT.Nothing w h = refl

pub is_name : (a : Atom) (w : Name) → is_named a ≡ true → atom_name a w ≡ some w
is_name (AT.Number z) w h = absurd (true≢false (sym h))
is_name AT.Named w h = refl
is_name (AT.Truth b) w h = absurd (true≢false (sym h))
is_name AT.ErrorNumber w h = absurd (true≢false (sym h))
is_name (AT.Base k) w h = absurd (true≢false (sym h))
is_name AT.Nothing w h = absurd (true≢false (sym h))

-- ---- what is given one bracket deeper, and after a part

pub around-in : {s l ts : List ℕ} {scope : Scope} {loops : Loops} {d n at top : ℕ} {σ : Environment} {bs js : List ℕ}
    → Around s l ts scope loops (suc d) n at top σ bs js → Around s l ts scope loops d n at top σ bs js
around-in A = record { scene = A.scene; in-force = A.in-force; few-loops = let w = A.few-loops in omega arith; few = A.few }

module _ {s l ts : List ℕ} {scope : Scope} {loops : Loops} {d n at top : ℕ} {σ : Environment} {bs js : List ℕ} (A : Around s l ts scope loops d n at top σ bs js)
    {a : Got} {l₁ : List ℕ} (m : Moves s at top l a l₁) where
  pub around-from : (k : ℕ) → k + nodes_in (first (stack_at s a.next)) ≤ 65535 → Around s l₁ ts scope loops d k a.next a.top σ bs js
  around-from k h = record { scene = scene-kept A.scene m.keeps m.grows; in-force = A.in-force; few-loops = let w = A.few-loops in omega arith; few = h }

  pub around-next : is_form a.fault ≡ false → Around s l₁ ts scope loops d n a.next a.top σ bs js
  unfolding nodes
  around-next h =
      let e : nodes_in (first (stack_at s at)) ≡ nodes (m.goes h).0 + nodes_in (first (stack_at s a.next)) = ap nodes_in (m.goes h).1.here in
      let f = A.few in
      around-from n (omega arith)

-- ---- a statement

module _ (s l ts : List ℕ) (scope : Scope) (loops : Loops) (d n at top : ℕ) where
  pub stmt-at-zero : (r : Got) → d ≡ 0 → r ≡ failed_got Form 0 at top → GivesStmt s l ts scope loops d n at top r l
  stmt-at-zero r h e = rw e (record { moves = fail-moves; says = λ σ bs js A. act-none (rw h (stmt-zero n (first (stack_at s at)))) refl })

  module _ (x : Part) (S : Stands s at x) where
    pub stmt-at-leaf : (w : Word) (p q : ℕ) (r : Got) → x ≡ part.Leaf w p q → r ≡ failed_got Form 0 q top → GivesStmt s l ts scope loops d n at top r l
    stmt-at-leaf w p q r h e =
        let L : LeafAt s at p q = (rw h at S.says).0 in
        rw e (record { moves = fail-moves; says = λ σ bs js A. act-none (rw L.leaf.here (stmt-word d n (word_at s p) (first (stack_at s q)))) refl })

    pub stmt-at-shut : (q : ℕ) (r : Got) → x ≡ part.Shut q → r ≡ failed_got Form 0 q top → GivesStmt s l ts scope loops d n at top r l
    stmt-at-shut q r h e =
        let L : ShutAt s at q = rw h at S.says in
        rw e (record { moves = fail-moves; says = λ σ bs js A. act-none (rw L.here (stmt-end d n)) refl })

    pub stmt-at-form : (q : ℕ) (r : Got) (l' : List ℕ) → x ≡ part.Form q → ((d ≡ 0) → ⊥) → GivesInner s l ts scope loops (d - 1) n q top r l' → GivesStmt s l ts scope loops d n at top r l'
    unfolding nodes
    stmt-at-form q r l' h z I =
        let F : FormAt s at q = rw h at S.says in
        record {
          moves = record {
            goes = λ e. (
              form (first (stack_at s q)),
              record {
                here = F.here ∙ ap (λ (k : List (Trees Run)). form (first (stack_at s q)) then first k) (I.leaves.goes e);
                around = F.around ∙ ap later (I.leaves.goes e);
              },
            );
            keeps = I.leaves.keeps;
            grows = I.leaves.grows;
          };
          says = λ σ bs js A.
              let e : nodes_in (first (stack_at s at)) ≡ suc (nodes_in (first (stack_at s q))) + nodes_in (first (later (stack_at s q))) = ap nodes_in F.here in
              let f = A.few in
              let T = I.says σ bs js (record { scene = A.scene; in-force = A.in-force; few-loops = let w = A.few-loops in omega arith; few = omega arith }) in
              rw (F.here, step d z (first (stack_at s q)) (first (later (stack_at s q)))) T;
        }
      where
        step : (d : ℕ) → ((d ≡ 0) → ⊥) → (us vs : Trees Run) → stmt_in d n (form us then vs) ≡ stmt_in (suc (d - 1)) n (form us then end)
        step d z us vs = parted n d us vs ∙ ap (λ k. stmt_in k n (form us then end)) (omega arith)

  module _ (x : Part) (S : Stands s at x) where
    pub inner-form : (q : ℕ) (r : Got) → x ≡ part.Form q → r ≡ failed_got Form 0 q top → GivesInner s l ts scope loops d n at top r l
    inner-form q r h e =
        let F : FormAt s at q = rw h at S.says in
        rw e (record { leaves = fail-leaves; says = λ σ bs js A. act-none (rw F.here (stmt-headless (suc d) n (first (stack_at s q)) (first (later (stack_at s q))) end)) refl })

    pub inner-shut : (q : ℕ) (r : Got) → x ≡ part.Shut q → r ≡ failed_got Form 0 q top → GivesInner s l ts scope loops d n at top r l
    inner-shut q r h e =
        let L : ShutAt s at q = rw h at S.says in
        rw e (record { leaves = fail-leaves; says = λ σ bs js A. act-none (rw L.here (stmt-empty (suc d) n end)) refl })

    pub inner-leaf : (w : Word) (p q : ℕ) (v : Verb) (m : ℕ) (r : Got) (l' : List ℕ) → x ≡ part.Leaf w p q → v ≡ verb_of w → m ≡ next_number n
        → GivesVerb s l ts scope loops v d m q top r l' → GivesInner s l ts scope loops d n at top r l'
    unfolding next_number nodes
    inner-leaf w p q v m r l' h e k G =
        let X = rw h at S.says in
        let L : LeafAt s at p q = X.0 in
        let W : w ≡ word_of (word_at s p) = X.1 in
        record {
          leaves = record { goes = λ z. L.leaf.around ∙ G.leaves.goes z; keeps = G.leaves.keeps; grows = G.leaves.grows };
          says = λ σ bs js A.
              let c : nodes_in (first (stack_at s at)) ≡ 1 + nodes_in (first (stack_at s q)) = ap nodes_in L.leaf.here in
              let f = A.few in
              let M : m ≡ suc n = k ∙ rw (lt-ltb n 4294967295 (omega arith)) (omega arith) in
              let T = G.says σ bs js (record { scene = A.scene; in-force = A.in-force; few-loops = let w = A.few-loops in omega arith; few = omega arith }) in
              rw (L.leaf.here, form-shape d n (word_at s p) (first (stack_at s q)) end, ← W, ← e, ← M) T;
        }

  -- ---- by its verb

  module _ (v : Verb) where
    pub headed-as : (u : Verb) (r : Got) (l' : List ℕ) → v ≡ u → GivesVerb s l ts scope loops u d n at top r l' → GivesVerb s l ts scope loops v d n at top r l'
    headed-as u r l' h G = rw h G

    pub headed-nothing : (r : Got) → v ≡ VB.Nothing → r ≡ failed_got Form 0 at top → GivesVerb s l ts scope loops v d n at top r l
    headed-nothing r h e = rw (h, e) (record { leaves = fail-leaves; says = λ σ bs js A. act-none (none-shape d n (first (stack_at s at))) refl })

    pub headed-assign : (r : Got) (l' : List ℕ) → v ≡ VB.Assign → GivesAssign s l ts scope loops n at top r l' → GivesVerb s l ts scope loops v d n at top r l'
    headed-assign r l' h G = rw h (G.any d)

    pub headed-raise : (r : Got) (l' : List ℕ) → v ≡ VB.Raise → GivesRaise s l ts scope n at top r l' → GivesVerb s l ts scope loops v d n at top r l'
    headed-raise r l' h G = rw h (G.any loops d)

    pub headed-call : (r : Got) (l' : List ℕ) → v ≡ VB.Call → GivesCall s l ts scope n at top r l' → GivesVerb s l ts scope loops v d n at top r l'
    headed-call r l' h G = rw h (G.any loops d)

  -- ---- `while`

  module _ (c : Got) (l₁ : List ℕ) (E : GivesWanted s l ts scope 1 at top c l₁) (t : Bool) (et : t ≡ is_form c.fault) where
    pub while-wrong : t ≡ true → GivesVerb s l ts scope loops VB.While d n at top c l₁
    while-wrong h = record {
      leaves = stop-leaves E.moves (sym et ∙ h);
      says = λ σ bs js A. act-none (while-shape d n (first (stack_at s at)) ∙ none-bind _ (want-none (E.says σ bs A.scene) (sym et ∙ h))) (sym et ∙ h);
    }

    pub if-wrong : t ≡ true → GivesVerb s l ts scope loops VB.If d n at top c l₁
    if-wrong h = record {
      leaves = stop-leaves E.moves (sym et ∙ h);
      says = λ σ bs js A. act-none (if-shape d n (first (stack_at s at)) ∙ none-bind _ (want-none (E.says σ bs A.scene) (sym et ∙ h))) (sym et ∙ h);
    }

    module _ (h : t ≡ false) where
      no-form : is_form c.fault ≡ false
      no-form = sym et ∙ h

      rest-is : rest (first (stack_at s at)) ≡ first (stack_at s c.next)
      rest-is = ap rest (E.moves.goes no-form).1.here

      pub while-both : (a : Got) (l₂ : List ℕ) → GivesStmt s l₁ ts scope loops d n c.next c.top a l₂ → (b r : Got) (l' : List ℕ) → Closes s a b → Makes (looped l₂ n c b) r l'
          → GivesVerb s l ts scope loops VB.While d n at top r l'
      unfolding looped
      while-both a l₂ G b r l' C k =
          let N = node_of k in
          record {
            leaves = node-leaves (then-leaves E.moves no-form (closes-leaves G.moves C)) (form-right c.fault b.fault) N;
            says = λ σ bs js A.
                rw (while-shape d n (first (stack_at s at)), rest-is)
                (while-act (expr_in 33 (first (stack_at s at))) (stmt_in d n (first (stack_at s c.next)) >>= λ p. closed (rest (first (stack_at s c.next))) p) c l₁ b l₂
                (E.says σ bs A.scene) (act-closed (stmt_in d n (first (stack_at s c.next))) G.moves C (G.says σ bs js (around-in (around-next A E.moves no-form)))) N);
          }

      -- ---- `if`

      pub if-more : (r : Got) (l' : List ℕ) → GivesThen s l₁ ts scope loops c d n r l' → GivesVerb s l ts scope loops VB.If d n at top r l'
      unfolding then_in
      if-more r l' G = record {
        leaves = then-leaves E.moves no-form G.leaves;
        says = λ σ bs js A.
            rw (if-shape d n (first (stack_at s at)), rest-is) (G.says σ bs js (expr_in 33 (first (stack_at s at))) top l (E.says σ bs A.scene) (around-in (around-next A E.moves no-form)));
      }

  -- the third part of an `if`
  module _ (e : Maybe ℕ) (S : Shuts s at e) where
    pub else-missing : (q : ℕ) (r : Got) → e ≡ Some q → r ≡ skip_got n q top → GivesElse s l ts scope loops d n at top r l
    unfolding else_in
    else-missing q r h k =
        let X : ShutAt s at q = rw h at S.says in
        rw k (record {
          leaves = record { goes = λ z. X.around; keeps = same_refl; grows = omega arith };
          says = λ σ bs js A. rw X.here skip-act;
        })

    pub else-part-is : (g r : Got) (l' : List ℕ) → e ≡ None → GivesStmt s l ts scope loops d n at top g l' → Closes s g r → GivesElse s l ts scope loops d n at top r l'
    else-part-is g r l' h G C = record {
      leaves = closes-leaves G.moves C;
      says = λ σ bs js A. rw (else_is (first (stack_at s at)) (rw h at S.says)) (act-closed (stmt_in d n (first (stack_at s at))) G.moves C (G.says σ bs js A));
    }
      where
        else_is : (us : Trees Run) → (us ≡ end → ⊥) → else_in d n us ≡ (stmt_in d n us >>= λ p. closed (rest us) p)
        else_is us z = else-some d n us z

-- ---- the branches of an `if`

module _ (s l ts : List ℕ) (scope : Scope) (loops : Loops) (c : Got) (d n : ℕ) (a : Got) (l₂ : List ℕ) (G : GivesStmt s l ts scope loops d n c.next c.top a l₂) (u : Bool) (eu : u ≡ is_form a.fault) where
  pub then-wrong : u ≡ true → GivesThen s l ts scope loops c d n a l₂
  unfolding then_in
  then-wrong i = record {
    leaves = stop-leaves G.moves (sym eu ∙ i);
    says = λ σ bs js o top l₀ W A.
        act-none (both-none d n (first (stack_at s c.next)) (rest (first (stack_at s c.next))) o (none_of (stmt_in d n (first (stack_at s c.next))) (G.says σ bs js A) (form-is a.fault (sym eu ∙ i)))) (sym eu ∙ i);
  }

  pub then-both : (b r : Got) (l₃ l' : List ℕ) → u ≡ false → GivesElse s l₂ ts scope loops d a.kind a.next a.top b l₃ → Makes (branched l₃ n c a b) r l'
      → GivesThen s l ts scope loops c d n r l'
  unfolding branched then_in
  then-both b r l₃ l' i L k =
      let N = node_of k in
      record {
        leaves = node-leaves (then-leaves G.moves (sym eu ∙ i) L.leaves) (form-right (lowest c.fault a.fault) b.fault) N;
        says = λ σ bs js o top l₀ W A.
            let T = G.says σ bs js A in
            let p = some_of (stmt_in d n (first (stack_at s c.next))) T (sym eu ∙ i) in
            let m = stmt-count d n (first (stack_at s c.next)) p.0 p.1 in
            let q = T.number p.0 p.1 in
            let v : rest (first (stack_at s c.next)) ≡ first (stack_at s a.next) = ap rest (G.moves.goes (sym eu ∙ i)).1.here in
            let w = ap nodes_in v in
            let f = A.few in
            let K = L.says σ bs js (around-from A G.moves a.kind (omega arith)) in
            rw (v, if-fixed d n o (stmt_in d n (first (stack_at s c.next))) p.0 p.1 a.kind q (first (stack_at s a.next)))
            (if-act o (stmt_in d n (first (stack_at s c.next))) (else_in d a.kind (first (stack_at s a.next))) c l a l₂ b l₃ W T K N);
      }

-- ---- an expression of a kind

pub wanted-way : (s l ts : List ℕ) (scope : Scope) (k at top : ℕ) (a r : Got) (l' : List ℕ) → GivesExpr s l ts scope 33 at top a l' → r ≡ wanted_got k a → GivesWanted s l ts scope k at top r l'
wanted-way s l ts scope k at top a r l' E e = rw e (record { moves = wanted-moves k E.moves; says = λ σ bs A. want-told k (E.says σ bs A) })

-- ---- `raise`

pub raise-way : (s l ts : List ℕ) (scope : Scope) (n at top : ℕ) (a c w r : Got) (l₁ l' : List ℕ) → GivesExpr s l ts scope 33 at top a l₁ → Closes s a c → w ≡ wanted_got 0 c → Makes (raised l₁ n w) r l'
    → GivesRaise s l ts scope n at top r l'
unfolding raised
raise-way s l ts scope n at top a c w r l₁ l' E C e k =
    let N = node_of k in
    record {
      any = λ loops d. record {
        leaves = node-leaves {b = w} (rw e (wanted-leaves 0 (closes-leaves E.moves C))) (λ z. z) N;
        says = λ σ bs js A.
            rw (raise-shape d n (first (stack_at s at)))
            (raise-act (expr_in 33 (first (stack_at s at)) >>= λ x. closed (rest (first (stack_at s at))) x) w l₁
            (rw e (want-told 0 (expr-closed (expr_in 33 (first (stack_at s at))) E.moves C (E.says σ bs A.scene)))) N);
      };
    }

-- ---- `call`

module _ (s l ts : List ℕ) (scope : Scope) (n at top : ℕ) (x : Part) (S : Stands s at x) where
  pub call-form : (q : ℕ) (r : Got) → x ≡ part.Form q → r ≡ failed_got Form 0 q top → GivesCall s l ts scope n at top r l
  call-form q r h e =
      let F : FormAt s at q = rw h at S.says in
      rw e (record {
        any = λ loops d. record {
          leaves = fail-leaves;
          says = λ σ bs js A.
              act-none (call_shape d n (first (stack_at s at)) ∙ none-bind _ (rw F.here (name-form (first (stack_at s q)) (first (later (stack_at s q)))))) refl;
        };
      })

  pub call-shut : (q : ℕ) (r : Got) → x ≡ part.Shut q → r ≡ failed_got Form 0 q top → GivesCall s l ts scope n at top r l
  call-shut q r h e =
      let L : ShutAt s at q = rw h at S.says in
      rw e (record {
        any = λ loops d. record {
          leaves = fail-leaves;
          says = λ σ bs js A.
              act-none (call_shape d n (first (stack_at s at)) ∙ none-bind _ (rw L.here name-end)) refl;
        };
      })

  module _ (w : Word) (p q : ℕ) (h : x ≡ part.Leaf w p q) (t : Bool) (et : t ≡ is_named (atom_of w)) where
    leaf-here : first (stack_at s at) ≡ (word (word_at s p) then first (stack_at s q))
    leaf-here = let X = rw h at S.says in X.0.leaf.here

    name-is : name_in (first (stack_at s at)) ≡ atom_name (atom_of w) (map small (word_at s p))
    name-is = let X = rw h at S.says in rw leaf-here (name-word (word_at s p) (first (stack_at s q)) ∙ ap (λ (u : Word). atom_name (atom_of u) (map small (word_at s p))) (sym X.1))

    pub call-unnamed : (r : Got) → t ≡ false → r ≡ failed_got Form 0 q top → GivesCall s l ts scope n at top r l
    call-unnamed r i e = rw e (record {
      any = λ loops d. record {
        leaves = fail-leaves;
        says = λ σ bs js A.
            act-none (call_shape d n (first (stack_at s at)) ∙ none-bind _ (name-is ∙ no_name (atom_of w) (map small (word_at s p)) (sym et ∙ i))) refl;
      };
    })

    pub call-named : (r : Got) (l' : List ℕ) → t ≡ true → GivesCallNamed s l ts scope n p q top r l' → GivesCall s l ts scope n at top r l'
    call-named r l' i G = record {
      any = λ loops d. record {
        leaves = record { goes = λ z. (let X = rw h at S.says in X.0.leaf.around) ∙ G.leaves.goes z; keeps = G.leaves.keeps; grows = G.leaves.grows };
        says = λ σ bs js A.
            let e : verb_in VB.Call d n (first (stack_at s at)) ≡ (exprs_in 33 (first (stack_at s q)) >>= λ es. some (Syntax.call n (map small (word_at s p)) es, n))
            = call_shape d n (first (stack_at s at)) ∙ some-bind _ (name-is ∙ is_name (atom_of w) (map small (word_at s p)) (sym et ∙ i))
            ∙ ap (λ (us : Trees Run). exprs_in 33 us >>= λ es. some (Syntax.call n (map small (word_at s p)) es, n)) (ap rest leaf-here) in
            rw e (G.says σ bs js A.scene);
      };
    }

pub ruleset stmt-laws = (stmt-at-zero, stmt-at-leaf, stmt-at-shut, stmt-at-form)

pub ruleset inner_laws = (inner-form, inner-shut, inner-leaf)

pub ruleset headed-laws = (headed-as, headed-nothing, headed-assign, headed-raise, headed-call)

pub ruleset while-laws = (while-wrong, while-both)

pub ruleset if-laws = (if-wrong, if-more)

pub ruleset then-laws = (then-wrong, then-both)

pub ruleset else-laws = (else-missing, else-part-is)

pub ruleset call-laws = (call-form, call-shut, call-unnamed, call-named)
