-- The statements of a body before its handler, one by one.
use mathlib.Core.Path.{◌≡◌, refl, sym, ap, ◌∙◌}
use mathlib.Core.Bool.{Bool, true, false, ◌&&◌}
use mathlib.Core.List.{List, [], ◌∷◌}
use mathlib.Core.Option.{Option, none, some}
use Prim.Native.Nat.{ℕ, ◌+◌, ◌<◌, ◌≤◌}
use native.Mathlib.Omega.{arith}
use lib.Seq.{get_or-set_other}
use Rattle.law.specs.Base.{◌>>=◌, both}
use Rattle.law.specs.Code.{Act, Acts, ◌also◌, Frame, BodyCode}
use Rattle.law.specs.Elaborate.{elab_stmt, elab_stmts, elab_body}
use Rattle.law.specs.Environment.{Environment}
use Rattle.code.specs.Layout.{lay, link, lay_acts}
use Rattle.law.specs.Names.{stmt_of, stmts_of, body_of}
use Rattle.law.specs.Rules.{kept_stmt, kept_stmts, kept_body}
use Rattle.law.specs.Script as Script
use Rattle.rule_stages.specs.Stages.{join, or_unfit, stmt_staged, body_staged}
use Rattle.law.specs.Syntax as Syntax
use Rattle.law.specs.Trees.{Tree, Trees, ◌then◌, Run, first, nodes_in}
use Rattle.law_theorems.specs.Readings.{stack_at}
use Rattle.law_theorems.proofs.Inversion.{some_inj, bind-some}
use Rattle.code.proofs.LayoutRegions.{lay-g}
use Rattle.rule_stages.proofs.Staging.{staged-two}
use Rattle.text_heads.specs.Parts.{part_of, rest, stmt_in, body_in, handler_in, with_first}
use Rattle.table_scope.specs.declared.Scope.{Scope}
use Rattle.rule_faults.specs.declared.Fault.{Fault}
use Rattle.table_scope.specs.Loops.{no_loops}
use Rattle.table_scope.proofs.Kept.{scene-kept}
use Rattle.table_list.specs.Laid.{Laid}
use Rattle.rule_faults.specs.declared.Got.{Got}
use Rattle.rule_faults.specs.Got.{lowest, is_form, fault_of}
use Rattle.rule_faults.proofs.Order.{lowest-assoc}
use Rattle.rule_expr_nodes.specs.Links.{linked}
use Rattle.rule_stmt_nodes.specs.Nodes.{skip_got, joined_got}
use Rattle.rule_statements.specs.Walks.{bare, ActTold, Around, GivesStmt}
use Rattle.rule_statements.specs.Chains.{many}
use Rattle.rule_stmt_nodes.specs.Handlers.{PlainAt}
use Rattle.rule_statements.specs.Fronts.{BodyLeft, Fronting}
use Rattle.rule_statements.proofs.Faults.{join-fault, join-fits, same_refl}
use Rattle.rule_statements.proofs.Acts.{some_of}
use Rattle.rule_statements.proofs.Shapes.{stmt-count}
use Rattle.rule_statements.proofs.Chains.{link-lay}

-- ---- stages

-- a body's code with a statement more in front
abbrev code_first : Act → BodyCode → BodyCode
code_first x y = record { frame = y.frame; acts = x also y.acts; handles = y.handles; handler = y.handler }

abbrev script_first : Script.Stmt → Script.Body → Script.Body
script_first x y = record { stmts = Script.◌next◌ x y.stmts; handles = y.handles; handler = y.handler }

abbrev body_first : Syntax.Stmt → Syntax.Body → Syntax.Body
body_first s b = with_first s b

-- bodies from their parts
abbrev made : Script.Stmts → Bool → Script.Stmts → Option Script.Body
made x h y = some (record { stmts = x; handles = h; handler = y })

abbrev coded : Frame → Acts → Bool → Acts → Option BodyCode
coded fr x h y = some (record { frame = fr; acts = x; handles = h; handler = y })

abbrev read : Syntax.Stmt × ℕ → Syntax.Body × ℕ → Option (Syntax.Body × ℕ)
read a b = some (body_first a.0 b.0, b.1)

first-staged : (σ : Environment) (fr : Frame) (p : Option Syntax.Stmt) (q : Option Syntax.Body)
    → body_staged σ fr (p >>= λ x. q >>= λ y. some (body_first x y)) ≡ join (stmt_staged σ [] p) (body_staged σ fr q) (λ x y. or_unfit (some (code_first x y)))
unfolding body_staged stmt_staged body_of stmts_of kept_body kept_stmts elab_body elab_stmts both ◌>>=◌
first-staged σ fr p q =
    staged-two (stmt_of σ) (λ s. kept_stmt s []) (elab_stmt σ.types σ.vars) (body_of σ) kept_body (elab_body σ.types σ.vars fr) (body_of σ) kept_body (elab_body σ.types σ.vars fr)
    body_first script_first (λ x y. some (code_first x y))
    (λ a b. names (stmt_of σ a) (stmts_of σ b.stmts) (stmts_of σ b.handler) b.handles)
    (λ x y. assoc (kept_stmt x []) (kept_stmts y.stmts []) (kept_stmts y.handler []))
    (λ x y. kinds (elab_stmt σ.types σ.vars x) (elab_stmts σ.types σ.vars y.stmts) (elab_stmts σ.types σ.vars y.handler) y.handles) p q
  where
    assoc : (a b c : Bool) → ((a && b) && c) ≡ (a && (b && c))
    assoc true b c = refl
    assoc false b c = refl

    names : (u : Option Script.Stmt) (v w : Option Script.Stmts) (h : Bool)
        → ((u >>= λ x. v >>= λ xs. some (Script.◌next◌ x xs)) >>= λ x. w >>= λ y. made x h y) ≡ (u >>= λ x. (v >>= λ xs. w >>= λ y. made xs h y) >>= λ y. some (script_first x y))
    names none v w h = refl
    names (some x) none w h = refl
    names (some x) (some xs) none h = refl
    names (some x) (some xs) (some y) h = refl

    kinds : (u : Option Act) (v w : Option Acts) (h : Bool)
        → both (both u v (λ x y. some (x also y))) w (λ x y. coded fr x h y) ≡ both u (both v w (λ x y. coded fr x h y)) (λ x y. some (code_first x y))
    kinds none v w h = refl
    kinds (some x) none w h = refl
    kinds (some x) (some y) none h = refl
    kinds (some x) (some y) (some z) h = refl

bare-body : (o : Option (Syntax.Stmt × ℕ)) (p : Option (Syntax.Body × ℕ)) → bare (o >>= λ a. p >>= λ b. read a b) ≡ (bare o >>= λ x. bare p >>= λ y. some (body_first x y))
unfolding ◌>>=◌
bare-body none p = refl
bare-body (some a) none = refl
bare-body (some a) (some b) = refl

body-first : (n : ℕ) (t : Tree Run) (ts us : Trees Run) (p : Syntax.Stmt × ℕ) → us ≡ (t then ts) → handler_in t ≡ none → stmt_in 33 n us ≡ some p
    → body_in n us ≡ (stmt_in 33 n us >>= λ a. body_in p.1 ts >>= λ b. read a b)
unfolding body_in stmt_in part_of ◌>>=◌
body-first n t ts us p e z h = rw e (go (rw e at h))
  where
    go : stmt_in 33 n (t then ts) ≡ some p → body_in n (t then ts) ≡ (stmt_in 33 n (t then ts) >>= λ a. body_in p.1 ts >>= λ b. read a b)
    go h = rw (body_in, z, h) refl

pub body-none : (n : ℕ) (t : Tree Run) (ts us : Trees Run) → us ≡ (t then ts) → handler_in t ≡ none → stmt_in 33 n us ≡ none → body_in n us ≡ none
unfolding body_in stmt_in part_of ◌>>=◌
body-none n t ts us e z h = rw e (go (rw e at h))
  where
    go : stmt_in 33 n (t then ts) ≡ none → body_in n (t then ts) ≡ none
    go h = rw (body_in, z, h) refl

module _ {σ : Environment} {fr : Frame} {bs : List ℕ} {o : Option (Syntax.Body × ℕ)} {slot top : ℕ} {l : List ℕ} {f : Fault} {slot' top' : ℕ} {l' : List ℕ} where
  front-left : (p : Option (Syntax.Stmt × ℕ)) (q r : Option (Syntax.Body × ℕ)) (g : Got) (l₂ : List ℕ) (t : ℕ) (l₃ : List ℕ)
      → r ≡ (p >>= λ a. q >>= λ b. read a b) → BodyLeft σ fr bs o slot top l f r slot' top' l'
      → ActTold σ bs [] p top' l' g l₂ → Laid (linked slot' g.place g.top l₂) t l₃ → BodyLeft σ fr bs o slot top l (lowest f g.fault) q (g.top + 1) t l₃
  front-left p q r g l₂ t l₃ e L A K =
      let S : body_staged σ fr (bare r) ≡ join (stmt_staged σ [] (bare p)) (body_staged σ fr (bare q)) (λ x y. or_unfit (some (code_first x y)))
      = ap (λ u. body_staged σ fr (bare u)) e ∙ ap (body_staged σ fr) (bare-body p q) ∙ first-staged σ fr (bare p) (bare q) in
      record {
        fault-is = L.fault-is ∙ ap (lowest f) (ap fault_of S ∙ join-fault code_first (stmt_staged σ [] (bare p)) (body_staged σ fr (bare q)))
            ∙ rw A.fault-is (lowest-assoc f (fault_of (stmt_staged σ [] (bare p))) (fault_of (body_staged σ fr (bare q))));
        laid = λ a h.
            let b = L.laid a h in
            let z = join-fits code_first (stmt_staged σ [] (bare p)) (body_staged σ fr (bare q)) b.0 (sym S ∙ b.1.0) in
            let m = z.made in (
              z.two,
              (
                z.two_fits,
                (
                  b.1.1.0 ∙ ap (λ (x : BodyCode). x.handles) (sym m),
                  (
                    b.1.1.1.0 ∙ ap (λ (x : BodyCode). x.handler) (sym m),
                    b.1.1.1.1 ∙ ap (λ (x : BodyCode). lay_acts bs x.acts slot' top' l') (sym m) ∙ link-lay bs z.one z.two.acts slot' top' l' g.place g.top l₂ t l₃ (A.laid z.one z.one-fits) K,
                  ),
                ),
              ),
            );
        number = λ u h.
            let v = L.number u h in
            bind-some (sym e ∙ v.1.0) λ a ha h'. bind-some h' λ b hb i. (b, (hb, v.1.1 ∙ ap (λ (x : Syntax.Body × ℕ). x.1) (sym (some_inj i))));
      }

-- ---- the loop

module _ (s l ts : List ℕ) (scope : Scope) (n slot at top : ℕ) where
  pub front-start : (g : Got) → g ≡ skip_got n at top → Fronting s l ts scope n slot at top g slot l
  front-start g e = rw e (record {
    around = refl;
    keeps = λ h. same_refl;
    above = λ h. omega arith;
    grows = omega arith;
    few-left = λ σ bs A h. A.few;
    says = λ σ fr bs A h. record { fault-is = refl; laid = λ a k. (a, (k, (refl, (refl, refl)))); number = λ p k. (p, (k, refl)) };
  })

  module _ (x : Got) (slot' : ℕ) (l₁ : List ℕ) (D : Fronting s l ts scope n slot at top x slot' l₁) (P : PlainAt s x.next) (g : Got) (l₂ : List ℕ)
      (G : GivesStmt s l₁ ts scope no_loops 33 x.kind x.next x.top g l₂) (t : Bool) (k : t ≡ is_form g.fault) (i : t ≡ false) where
    front-inside : (σ : Environment) (bs : List ℕ) → Around s l ts scope no_loops 33 n at slot σ bs [] → slot ≤ top → Around s l₁ ts scope no_loops 33 x.kind x.next x.top σ bs []
    front-inside σ bs A h = record {
      scene = scene-kept A.scene (D.keeps h) (let y = D.grows in omega arith);
      in-force = A.in-force;
      few-loops = let w = A.few-loops in omega arith;
      few = D.few-left σ bs A h;
    }

    front-parts : (u : Tree Run) × (first (stack_at s x.next) ≡ (u then first (stack_at s g.next)))
    front-parts = let b = G.moves.goes (sym k ∙ i) in (b.0, b.1.here)

    pub front-falls : (y : Got) (u : ℕ) → y ≡ joined_got x g u → many (first (stack_at s y.next)) < many (first (stack_at s x.next))
    unfolding many
    front-falls y u e = rw (e, front-parts.1) (omega arith)

    pub front-next : (u : ℕ) (l₃ : List ℕ) (y : Got) (w : ℕ) → Laid (linked slot' g.place g.top l₂) u l₃ → w ≡ g.top + 1 → y ≡ joined_got x g u → Fronting s l ts scope n slot at top y w l₃
    unfolding linked link
    front-next u l₃ y w K ew ey =
        let G₁ = lay-g (g.place ∷ 0 ∷ []) g.top l₂ in
        rw (ey, ew) (record {
          around = D.around ∙ (G.moves.goes (sym k ∙ i)).1.around;
          keeps = λ j.
              let v = D.above j in let b = D.grows in let m = G.moves.grows in
              record {
                at = λ a p q. rw K.left (get_or-set_other (lay (g.place ∷ 0 ∷ []) g.top l₂).list slot' a (lay (g.place ∷ 0 ∷ []) g.top l₂).pos 0 (omega arith)
                    ∙ G₁.below a (omega arith) ∙ G.moves.keeps.at a p (omega arith) ∙ (D.keeps j).at a p q);
              };
          above = λ j. let b = D.grows in let m = G.moves.grows in omega arith;
          grows = let b = D.grows in let m = G.moves.grows in let v = G₁.up in rw K.free (omega arith);
          few-left = λ σ bs A j.
              let T = G.says σ bs [] (front-inside σ bs A j) in
              let p = some_of (stmt_in 33 x.kind (first (stack_at s x.next))) T (sym k ∙ i) in
              let m = stmt-count 33 x.kind (first (stack_at s x.next)) p.0 p.1 in
              let b = D.few-left σ bs A j in
              let c = T.number p.0 p.1 in
              let v : nodes_in (rest (first (stack_at s x.next))) ≡ nodes_in (first (stack_at s g.next)) = ap (λ (a : Trees Run). nodes_in (rest a)) front-parts.1 in
              omega arith;
          says = λ σ fr bs A j.
              let T = G.says σ bs [] (front-inside σ bs A j) in
              let p = some_of (stmt_in 33 x.kind (first (stack_at s x.next))) T (sym k ∙ i) in
              let q : body_in x.kind (first (stack_at s x.next)) ≡ (stmt_in 33 x.kind (first (stack_at s x.next)) >>= λ a. body_in g.kind (first (stack_at s g.next)) >>= λ b. read a b)
              = rw (T.number p.0 p.1) (body-first x.kind front-parts.0 (first (stack_at s g.next)) (first (stack_at s x.next)) p.0 front-parts.1 (P.plain front-parts.0 (first (stack_at s g.next)) front-parts.1) p.1) in
              front-left (stmt_in 33 x.kind (first (stack_at s x.next))) (body_in g.kind (first (stack_at s g.next))) (body_in x.kind (first (stack_at s x.next))) g l₂ u l₃ q (D.says σ fr bs A j) T K;
        })
