-- The ways of `for`, of `begin` and of the chain of its statements.
use mathlib.Core.Path.{◌≡◌, refl, sym, ap, ◌∙◌}
use mathlib.Core.Bool.{Bool, true, false}
use mathlib.Core.List.{List, [], ◌∷◌, map}
use mathlib.Core.Option.{Option, none, some}
use Prim.Native.Nat.{ℕ, suc, ◌+◌, ◌<◌, ◌≤◌}
use native.Mathlib.Omega.{arith}
use lib.ListN.{length}
use Rattle.leaf_words.specs.declared.words.Word.{Word}
use Rattle.leaf_bytes.specs.Bytes.{small}
use Rattle.law.specs.Base.{Name, ◌>>=◌}
use Rattle.law.specs.Code.{Act, Acts, sequence}
use Rattle.law.specs.Environment.{Environment}
use Rattle.code.specs.Layout.{lay, lay_act, lay_acts}
use Rattle.rule_stages.specs.Stages.{on_fits, or_unfit, stmt_staged, stmts_staged}
use Rattle.law.specs.Syntax as Syntax
use Rattle.law.specs.Trees.{word, ◌then◌, first, later, nodes, nodes_in, word_at}
use Rattle.law_theorems.specs.Readings.{stack_at}
use Rattle.law.specs.Types.{host_of}
use Rattle.law_theorems.proofs.Inversion.{some_inj, bind-some}
use Rattle.code.proofs.LayoutRegions.{lay-g}
use Rattle.code.specs.LayoutRegions.{Same}
use Rattle.rule_stages.proofs.OnePassStmts.{begin-staged}
use Rattle.text_heads.specs.declared.Verb.TheVariants as VB
use Rattle.text_heads.specs.Heads.{atom_of, atom_name}
use Rattle.text_heads.specs.Parts.{rest, closed, expr_in, name_in, stmt_in, stmts_in}
use Rattle.text_heads.proofs.Heads.{name-word}
use Rattle.text_heads.proofs.Expressions.{name-form}
use Rattle.table_scope.specs.declared.Scope.{Scope}
use Rattle.rule_faults.specs.declared.Fault.TheVariants.{Form}
use Rattle.table_scope.specs.declared.Loops.{Loops}
use Rattle.table_scope.specs.declared.Meaning.{Meaning}
use Rattle.table_scope.specs.Descriptions.{info_of}
use Rattle.table_scope.specs.Sides.{host_in}
use Rattle.table_scope.specs.Loops.{loops_over, with_loop, InForce}
use Rattle.table_scope.specs.Scene.{Scene, meaning_here}
use Rattle.table_scope.proofs.Kept.{scene-kept}
use Rattle.table_scope.proofs.Looping.{in-force-more}
use Rattle.table_scope.proofs.Telling.{meant, host-in, shape-ordinal, low_told, high-told}
use Rattle.table_list.specs.Laid.{Laid}
use Rattle.rule_faults.specs.declared.Got.{Got}
use Rattle.text_parts.specs.declared.Part.{Part}
use Rattle.text_parts.specs.declared.Part.TheVariants as part
use Rattle.std.specs.Prelude.{Option as Maybe, Some, None}
use Rattle.rule_faults.specs.Got.{lowest, is_form, fault_of, failed_got}
use Rattle.text_parts.specs.Parts.{FormAt, ShutAt, Stands, Shuts}
use Rattle.rule_expr_nodes.specs.Bracket.{Closes}
use Rattle.rule_expr_nodes.specs.Nodes.{Makes}
use Rattle.rule_stmt_nodes.specs.declared.nodes.Control.{Control}
use Rattle.rule_expr_nodes.specs.Links.{linked}
use Rattle.rule_stmt_nodes.specs.Nodes.{control_by, control_fault, repeated, repeated_by, sequenced, skip_got, joined_got, finished_got, is_named}
use Rattle.rule_statements.specs.Walks.{bare, WantTold, ActTold, ControlTold, known, unknown, Around, GivesStmt, GivesVerb, GivesWanted, for_in, GivesFor, to_in, GivesTo, do_in, GivesDo, GivesActs}
use Rattle.rule_statements.specs.Chains.{many, Doing}
use Rattle.rule_statements.proofs.Faults.{form-left, form-right, closes-leaves, then-leaves, Node, node_of, node-leaves, act-closed, on-fault, on-fits}
use Rattle.rule_statements.proofs.Acts.{bare-last, act-none}
use Rattle.rule_statements.proofs.Stores.{control-told, for-known, for-not-known}
use Rattle.rule_statements.proofs.Shapes.{for-shape, begin-shape}
use Rattle.rule_statements.proofs.Chains.{acts-start, acts-end, acts-wrong, acts-next, acts-falls}
use Rattle.rule_statements.proofs.Ways.{fail-leaves, stop-leaves, none-bind, want-none, around-next, name-end, no_name, is_name}

-- ---- the control variable

module _ (s l ts : List ℕ) (scope : Scope) (loops : Loops) (d n at top : ℕ) (x : Part) (S : Stands s at x) where
  pub for-form : (q : ℕ) (r : Got) → x ≡ part.Form q → r ≡ failed_got Form 0 q top → GivesVerb s l ts scope loops VB.For d n at top r l
  for-form q r h e =
      let F : FormAt s at q = rw h at S.says in
      rw e (record {
        leaves = fail-leaves;
        says = λ σ bs js A.
            act-none (for-shape d n (first (stack_at s at)) ∙ none-bind _ (rw F.here (name-form (first (stack_at s q)) (first (later (stack_at s q)))))) refl;
      })

  pub for-shut : (q : ℕ) (r : Got) → x ≡ part.Shut q → r ≡ failed_got Form 0 q top → GivesVerb s l ts scope loops VB.For d n at top r l
  for-shut q r h e =
      let L : ShutAt s at q = rw h at S.says in
      rw e (record { leaves = fail-leaves; says = λ σ bs js A. act-none (for-shape d n (first (stack_at s at)) ∙ none-bind _ (rw L.here name-end)) refl })

  module _ (w : Word) (p q : ℕ) (h : x ≡ part.Leaf w p q) (t : Bool) (et : t ≡ is_named (atom_of w)) where
    control-here : first (stack_at s at) ≡ (word (word_at s p) then first (stack_at s q))
    control-here = let X = rw h at S.says in X.0.leaf.here

    control-name : name_in (first (stack_at s at)) ≡ atom_name (atom_of w) (map small (word_at s p))
    control-name = let X = rw h at S.says in rw control-here (name-word (word_at s p) (first (stack_at s q)) ∙ ap (λ (u : Word). atom_name (atom_of u) (map small (word_at s p))) (sym X.1))

    pub for-unnamed : (r : Got) → t ≡ false → r ≡ failed_got Form 0 q top → GivesVerb s l ts scope loops VB.For d n at top r l
    for-unnamed r i e = rw e (record {
      leaves = fail-leaves;
      says = λ σ bs js A.
          act-none (for-shape d n (first (stack_at s at)) ∙ none-bind _ (control-name ∙ no_name (atom_of w) (map small (word_at s p)) (sym et ∙ i))) refl;
    })

    pub for-named : (m : Meaning) (v : Control) (r : Got) (l' : List ℕ) → t ≡ true → m ≡ meaning_here s l scope p → v ≡ control_by m
        → GivesFor s l ts scope loops v d n q top r l' → GivesVerb s l ts scope loops VB.For d n at top r l'
    unfolding nodes ◌>>=◌
    for-named m v r l' i em ev G =
        let X = rw h at S.says in
        record {
          leaves = record { goes = λ z. X.0.leaf.around ∙ G.leaves.goes z; keeps = G.leaves.keeps; grows = G.leaves.grows };
          says = λ σ bs js A.
              let c : nodes_in (first (stack_at s at)) ≡ 1 + nodes_in (first (stack_at s q)) = ap nodes_in control-here in
              let f = A.few in
              let T = rw (← em) at (meant A.scene (map small (word_at s p))) in
              rw (for-shape d n (first (stack_at s at)), control-name, is_name (atom_of w) (map small (word_at s p)) (sym et ∙ i), ap rest control-here)
              (G.says σ bs js (map small (word_at s p)) (record { scene = A.scene; in-force = A.in-force; few-loops = let w = A.few-loops in omega arith; few = omega arith }) (rw ev (control-told (map small (word_at s p)) T)));
        }

-- ---- the other parts of a `for`

module _ (s l ts : List ℕ) (scope : Scope) (loops : Loops) (v : Control) (d n at top : ℕ) (k : ℕ) (x : Got) (l₁ : List ℕ)
    (ek : k ≡ host_in l ts v.kind) (E : GivesWanted s l ts scope k at top x l₁) (t : Bool) (et : t ≡ is_form x.fault) where
  pub for-from-wrong : t ≡ true → GivesFor s l ts scope loops v d n at top x l₁
  unfolding for_in
  for-from-wrong h = record {
    leaves = stop-leaves E.moves (sym et ∙ h);
    says = λ σ bs js w A c. act-none (none-bind _ (want-none (E.says σ bs A.scene) (sym et ∙ h))) (sym et ∙ h);
  }

  pub for-from-more : (r : Got) (l' : List ℕ) → t ≡ false → GivesTo s l₁ ts scope loops k v x d n r l' → GivesFor s l ts scope loops v d n at top r l'
  unfolding for_in to_in
  for-from-more r l' h G =
      let no : is_form x.fault ≡ false = sym et ∙ h in
      let second : rest (first (stack_at s at)) ≡ first (stack_at s x.next) = ap rest (E.moves.goes no).1.here in
      record {
        leaves = then-leaves E.moves no G.leaves;
        says = λ σ bs js w A c. rw second (G.says σ bs js w (expr_in 33 (first (stack_at s at))) top l (E.says σ bs A.scene) (around-next A E.moves no) (ek ∙ host-in A.scene v.kind) c);
      }

module _ (s l ts : List ℕ) (scope : Scope) (loops : Loops) (k : ℕ) (v : Control) (x : Got) (d n : ℕ) (y : Got) (l₂ : List ℕ)
    (E : GivesWanted s l ts scope k x.next x.top y l₂) (u : Bool) (eu : u ≡ is_form y.fault) where
  pub for-to-wrong : u ≡ true → GivesTo s l ts scope loops k v x d n y l₂
  unfolding to_in ◌>>=◌
  for-to-wrong i = record {
    leaves = stop-leaves E.moves (sym eu ∙ i);
    says = λ σ bs js w o top l₀ W A hk c. act-none (rw (want-none (E.says σ bs A.scene) (sym eu ∙ i)) (go o)) (sym eu ∙ i);
  }
    where
      go : (o : Option Syntax.Expr) → ◌≡◌ {A = Option (Syntax.Stmt × ℕ)} (o >>= λ z. none) none
      go none = refl
      go (some z) = refl

  pub for-to-more : (r : Got) (l' : List ℕ) → u ≡ false → GivesDo s l₂ ts scope loops v x y d n r l' → GivesTo s l ts scope loops k v x d n r l'
  unfolding to_in do_in
  for-to-more r l' j G =
      let no : is_form y.fault ≡ false = sym eu ∙ j in
      let third : rest (first (stack_at s x.next)) ≡ first (stack_at s y.next) = ap rest (E.moves.goes no).1.here in
      record {
        leaves = then-leaves E.moves no G.leaves;
        says = λ σ bs js w o top l₀ W A hk c.
            rw third (G.says σ bs js w k o (expr_in 33 (first (stack_at s x.next))) top l₀ l W (E.says σ bs A.scene) (around-next A E.moves no) hk c);
      }

module _ (s l ts : List ℕ) (scope : Scope) (loops : Loops) (v : Control) (x y : Got) (d n : ℕ) where
  pub for-do : (ws : Loops) (g z r : Got) (l₃ l' : List ℕ) → ws ≡ with_loop loops v.number
      → GivesStmt s l ts scope ws d n y.next y.top g l₃ → Closes s g z → Makes (repeated_by l₃ (info_of l₃ ts v.kind) loops n v x y z) r l'
      → GivesDo s l ts scope loops v x y d n r l'
  unfolding repeated_by repeated do_in
  for-do ws g z r l₃ l' ew G C m =
      let N = node_of m in
      record {
        leaves = node-leaves (closes-leaves G.moves C)
            (λ e. form-right (lowest x.fault y.fault) z.fault (form-right v.fault (lowest (lowest x.fault y.fault) z.fault) (form-left (lowest v.fault (lowest (lowest x.fault y.fault) z.fault)) (control_fault (loops_over loops v.number) (info_of l₃ ts v.kind)) e))) N;
        says = λ σ bs js w k o p top l₀ l₁ W W₂ A hk c.
            let Q : (is : List ℕ) → InForce ws is → length is ≡ suc (length js) → ActTold σ bs is (stmt_in d n (first (stack_at s y.next)) >>= λ p. closed (rest (first (stack_at s y.next))) p) y.top l z l₃
            = λ is F z. act-closed (stmt_in d n (first (stack_at s y.next))) G.moves C (G.says σ bs is (record { scene = A.scene; in-force = F; few-loops = let w = A.few-loops in omega arith; few = A.few })) in
            go σ bs js w k o p top l₀ l₁ W W₂ A hk Q (scene-kept A.scene G.moves.keeps G.moves.grows) N c refl;
      }
    where
      go : (σ : Environment) (bs js : List ℕ) (w : Name) (k : ℕ) (o p : Option Syntax.Expr) (top : ℕ) (l₀ l₁ : List ℕ) → WantTold σ k o top l₀ x l₁ → WantTold σ k p x.top l₁ y l
          → Around s l ts scope loops (suc d) n y.next y.top σ bs js → k ≡ host_of σ.types v.kind
          → ((is : List ℕ) → InForce ws is → length is ≡ suc (length js) → ActTold σ bs is (stmt_in d n (first (stack_at s y.next)) >>= λ p. closed (rest (first (stack_at s y.next))) p) y.top l z l₃)
          → Scene s l₃ ts scope g.top σ bs → Node (lowest (lowest v.fault (lowest (lowest x.fault y.fault) z.fault)) (control_fault (loops_over loops v.number) (info_of l₃ ts v.kind))) z.kind z.next
          (48 ∷ n ∷ v.base ∷ (info_of l₃ ts v.kind).low ∷ (info_of l₃ ts v.kind).high ∷ x.place ∷ y.place ∷ z.place ∷ []) z.top l₃ r l'
          → {c : Control} → ControlTold σ w c → c ≡ v
          → ActTold σ bs js (o >>= λ e. p >>= λ f. (stmt_in d n (first (stack_at s y.next)) >>= λ p. closed (rest (first (stack_at s y.next))) p) >>= λ q. some (Syntax.for n w e f q.0, q.1)) top l₀ r l'
      go σ bs js w k o p top l₀ l₁ W W₂ A hk Q Sc N (known b' D hb hd) e =
          let fl = A.few-loops in
          let num : b' ≡ v.number = ap (λ (c : Control). c.number) e in
          let knd : D.type ≡ v.kind = ap (λ (c : Control). c.kind) e in
          let F : InForce ws (b' ∷ js) = rw (ew, ← num) (in-force-more A.in-force (omega arith)) in
          for-known σ bs js n top l₀ r l' k (b' ∷ js) o p (stmt_in d n (first (stack_at s y.next)) >>= λ p. closed (rest (first (stack_at s y.next))) p)
          x l₁ y l z l₃ (info_of l₃ ts v.kind) (loops_over loops v.number) w W W₂ (Q (b' ∷ js) F refl) v N b' D (sym (ap (λ (c : Control). c.fault) e)) hb hd
          (rw knd hk) refl (sym (ap (λ (c : Control). c.base) e)) (rw (← num) (A.in-force.in-force b'))
          (rw knd (shape-ordinal Sc v.kind)) (rw knd (low_told Sc v.kind)) (rw knd (high-told Sc v.kind))
      go σ bs js w k o p top l₀ l₁ W W₂ A hk Q Sc N (unknown hw) e =
          let fl = A.few-loops in
          let num : 0 ≡ v.number = ap (λ (c : Control). c.number) e in
          let F : InForce ws (0 ∷ js) = rw (ew, ← num) (in-force-more A.in-force (omega arith)) in
          for-not-known σ bs js n top l₀ r l' k (0 ∷ js) o p (stmt_in d n (first (stack_at s y.next)) >>= λ p. closed (rest (first (stack_at s y.next))) p)
          x l₁ y l z l₃ (info_of l₃ ts v.kind) (loops_over loops v.number) w W W₂ (Q (0 ∷ js) F refl) v N (sym (ap (λ (c : Control). c.fault) e)) hw

-- ---- `begin`

module _ (s l ts : List ℕ) (scope : Scope) (loops : Loops) (d n at top : ℕ) where
  pub begin-way : (t slot : ℕ) (m r : Got) (l₁ l₂ l' : List ℕ) → Laid (lay (0 ∷ []) top l) t l₁ → slot ≡ top → GivesActs s l₁ ts scope loops d n slot at t m l₂ → Makes (sequenced l₂ n top m) r l'
      → GivesVerb s l ts scope loops VB.Begin d n at top r l'
  unfolding sequenced lay lay_act
  begin-way t slot m r l₁ l₂ l' K es G k =
      let N = node_of k in
      let g = lay-g (0 ∷ []) top l in
      let up : top ≤ t = rw K.free g.up in
      let same₁ : Same 0 top l₁ l = record { at = λ i a b. rw K.left (g.below i b) } in
      let same₂ : Same 0 top l₂ l₁ = rw es at (G.keeps (rw es up)) in
      let gr = G.grows in let nu = N.up in
      record {
        leaves = record {
          goes = λ e. G.goes (ap is_form (sym N.fault-is) ∙ e) ∙ ap (stack_at s) (sym N.next-is);
          keeps = record { at = λ i a b. N.below.at i a (omega arith) ∙ same₂.at i a b ∙ same₁.at i a b };
          grows = omega arith;
        };
        says = λ σ bs js A.
            let T = G.says σ bs js (rw es (record { scene = scene-kept A.scene same₁ (omega arith); in-force = A.in-force; few-loops = let w = A.few-loops in omega arith; few = A.few })) (rw es up) in
            let o = stmts_in d n (first (stack_at s at)) in
            let Sq : stmt_staged σ js (bare (o >>= λ p. some (Syntax.begin n p.0, p.1))) ≡ on_fits (stmts_staged σ js (bare o)) (λ x. or_unfit (some (sequence n x)))
            = ap (stmt_staged σ js) (bare-last o (Syntax.begin n)) ∙ begin-staged σ js n (bare o) in
            rw (begin-shape d n (first (stack_at s at))) (record {
              fault-is = N.fault-is ∙ T.fault-is ∙ sym (ap fault_of Sq ∙ on-fault (λ (x : Acts). sequence n x) (stmts_staged σ js (bare o)));
              laid = λ a h.
                  let z = on-fits (λ (x : Acts). sequence n x) (stmts_staged σ js (bare o)) a (sym Sq ∙ h) in
                  let y = T.laid z.part z.part-fits in
                  N.laid (T.fault-is ∙ ap fault_of z.part-fits) ∙ begin-lay bs z.part (rw es at y.0) (rw es at y.1) ∙ ap (λ (x : Act). lay_act bs x top l) z.made;
              number = λ p h. bind-some h λ q hq i. N.kind-is ∙ T.number q hq ∙ ap (λ (x : Syntax.Stmt × ℕ). x.1) (some_inj i);
            });
      }
    where
      begin-lay : (bs : List ℕ) (x : Acts) → m.top ≡ (lay_acts bs x top t l₁).top → l₂ ≡ (lay_acts bs x top t l₁).list → lay (45 ∷ n ∷ top ∷ []) m.top l₂ ≡ lay_act bs (sequence n x) top l
      begin-lay bs x e f = rw (e, f, K.free, K.left) refl

-- ---- the chain

module _ (s l ts : List ℕ) (scope : Scope) (loops : Loops) (d n slot at top : ℕ) where
  pub chain-start : (g : Got) → g ≡ skip_got n at top → Doing s l ts scope loops d n slot at top g slot l
  chain-start g e = acts-start s l ts scope loops d n slot at top g e

  module _ (x : Got) (slot' : ℕ) (l₁ : List ℕ) (D : Doing s l ts scope loops d n slot at top x slot' l₁) (e : Maybe ℕ) (h : Shuts s x.next e) where
    pub chain-end : (q : ℕ) (r : Got) → e ≡ Some q → r ≡ finished_got x q → GivesActs s l ts scope loops d n slot at top r l₁
    chain-end q r z k = acts-end s l ts scope loops d n slot at top x slot' l₁ D e q r h z k

    module _ (z : e ≡ None) (g : Got) (l₂ : List ℕ) (G : GivesStmt s l₁ ts scope loops d x.kind x.next x.top g l₂) (t : Bool) (k : t ≡ is_form g.fault) where
      pub chain-wrong : t ≡ true → GivesActs s l ts scope loops d n slot at top g l₂
      chain-wrong i = acts-wrong s l ts scope loops d n slot at top x slot' l₁ D e h z g l₂ G t k i

      pub chain_next : (u : ℕ) (l₃ : List ℕ) (y : Got) (w : ℕ) → t ≡ false → Laid (linked slot' g.place g.top l₂) u l₃ → w ≡ g.top + 1 → y ≡ joined_got x g u → Doing s l ts scope loops d n slot at top y w l₃
      chain_next u l₃ y w i K ew ey = acts-next s l ts scope loops d n slot at top x slot' l₁ D e h z g l₂ G t k i u l₃ y (lowest x.fault g.fault) w K refl ew ey

      pub chain-falls : (y : Got) (u : ℕ) → t ≡ false → y ≡ joined_got x g u → many (first (stack_at s y.next)) < many (first (stack_at s x.next))
      chain-falls y u i ey = rw ey (acts-falls s l ts scope loops d n slot at top x slot' l₁ D e h z g l₂ G t k i)

pub ruleset Chain-laws = (chain-end, chain-wrong)

pub ruleset for-laws = (for-form, for-shut, for-unnamed, for-named)

pub ruleset for-from-laws = (for-from-wrong, for-from-more)

pub ruleset for-to-laws = (for-to-wrong, for-to-more)
