-- A chain of statements, one by one.
use mathlib.Core.Path.{◌≡◌, refl, sym, ap, ◌∙◌}
use mathlib.Core.Bool.{Bool, true, false, true≢false}
use mathlib.Core.List.{List, [], ◌∷◌}
use mathlib.Core.Option.{Option, none, some}
use Prim.Native.Nat.{ℕ, ◌+◌, ◌<◌, ◌≤◌}
use native.Mathlib.Omega.{arith}
use lib.Seq.{get_or-set_other}
use Rattle.law.specs.Base.{◌>>=◌}
use Rattle.law.specs.Code.{Act, Acts, ◌also◌}
use Rattle.law.specs.Elaborate.{elab_stmts}
use Rattle.law.specs.Environment.{Environment}
use Rattle.code.specs.Layout.{Out, out, lay, link, lay_act, lay_acts}
use Rattle.law.specs.Names.{stmts_of}
use Rattle.law.specs.Rules.{kept_stmts}
use Rattle.rule_stages.specs.Stages.{staged, named, ruled, join, or_unfit, stmt_staged, stmts_staged}
use Rattle.law.specs.Syntax as Syntax
use Rattle.law.specs.Trees.{Tree, Trees, end, ◌then◌, Run, first, nodes_in}
use Rattle.law_theorems.specs.Readings.{stack_at}
use Rattle.law_theorems.proofs.Inversion.{none-some, some_inj, bind-some}
use Rattle.code.proofs.LayoutRegions.{lay-g}
use Rattle.code.specs.LayoutRegions.{Same}
use Rattle.rule_stages.proofs.OnePassStmts.{stmts-staged}
use Rattle.text_heads.specs.Parts.{part_of, rest, stmt_in, stmts_in}
use Rattle.table_scope.specs.declared.Scope.{Scope}
use Rattle.rule_faults.specs.declared.Fault.{Fault}
use Rattle.rule_faults.specs.declared.Fault.TheVariants.{Form}
use Rattle.table_scope.specs.declared.Loops.{Loops}
use Rattle.table_scope.proofs.Kept.{scene-kept}
use Rattle.table_list.specs.Laid.{Laid}
use Rattle.rule_faults.specs.declared.Got.{Got}
use Rattle.std.specs.Prelude.{Option as Maybe, Some, None}
use Rattle.rule_faults.specs.Got.{lowest, is_form, fault_of}
use Rattle.rule_faults.proofs.Order.{lowest-assoc, lowest-clear}
use Rattle.text_parts.specs.Parts.{Shuts, ShutAt}
use Rattle.rule_expressions.proofs.Joining.{wrong-fits, fits-inj}
use Rattle.rule_expr_nodes.specs.Links.{linked}
use Rattle.rule_stmt_nodes.specs.Nodes.{skip_got}
use Rattle.rule_statements.specs.Walks.{bare, ActTold, ActsTold, Around, GivesStmt, GivesActs}
use Rattle.rule_statements.specs.Chains.{many, LeftTold, Doing}
use Rattle.rule_statements.proofs.Faults.{lowest-form, join-fault, join-fits, form-is, form-none, same_refl}
use Rattle.rule_statements.proofs.Acts.{some_of}
use Rattle.rule_statements.proofs.Shapes.{stmt-count}

-- ---- stages and layouts of a chain

bare-next : (o : Option (Syntax.Stmt × ℕ)) (p : Option (Syntax.Stmts × ℕ))
    → bare (o >>= λ a. p >>= λ b. some (Syntax.◌next◌ a.0 b.0, b.1)) ≡ (bare o >>= λ x. bare p >>= λ y. some (Syntax.◌next◌ x y))
unfolding ◌>>=◌
bare-next none p = refl
bare-next (some a) none = refl
bare-next (some a) (some b) = refl

-- a first statement p, then the others
stmts-first : (d n : ℕ) (t : Tree Run) (ts us : Trees Run) (p : Syntax.Stmt × ℕ) → us ≡ (t then ts) → stmt_in d n us ≡ some p
    → stmts_in d n us ≡ (stmt_in d n us >>= λ a. stmts_in d p.1 ts >>= λ b. some (Syntax.◌next◌ a.0 b.0, b.1))
unfolding stmts_in stmt_in part_of ◌>>=◌
stmts-first d n t ts us p e h = rw e (go (rw e at h))
  where
    go : stmt_in d n (t then ts) ≡ some p → stmts_in d n (t then ts) ≡ (stmt_in d n (t then ts) >>= λ a. stmts_in d p.1 ts >>= λ b. some (Syntax.◌next◌ a.0 b.0, b.1))
    go h = rw h refl

stmts-none : (d n : ℕ) (us : Trees Run) → (us ≡ end → ⊥) → stmt_in d n us ≡ none → stmts_in d n us ≡ none
unfolding stmts_in stmt_in part_of ◌>>=◌
stmts-none d n end h e = absurd (h refl)
stmts-none d n (t then ts) h e = rw e refl

pub link-lay : (bs : List ℕ) (x : Act) (y : Acts) (slot top : ℕ) (l : List ℕ) (p u : ℕ) (l₂ : List ℕ) (t : ℕ) (l₃ : List ℕ) → out p u l₂ ≡ lay_act bs x top l → Laid (linked slot p u l₂) t l₃
    → lay_acts bs (x also y) slot top l ≡ lay_acts bs y (u + 1) t l₃
unfolding lay_act linked link lay
link-lay bs x y slot top l p u l₂ t l₃ e k = rw (← e, k.free, k.left) refl

module _ {σ : Environment} {bs js : List ℕ} {o : Option (Syntax.Stmts × ℕ)} {slot top : ℕ} {l : List ℕ} {f : Fault} {slot' top' : ℕ} {l' : List ℕ} where
  left-next : (p : Option (Syntax.Stmt × ℕ)) (q r : Option (Syntax.Stmts × ℕ)) (g : Got) (l₂ : List ℕ) (t : ℕ) (l₃ : List ℕ)
      → r ≡ (p >>= λ a. q >>= λ b. some (Syntax.◌next◌ a.0 b.0, b.1)) → LeftTold σ bs js o slot top l f r slot' top' l'
      → ActTold σ bs js p top' l' g l₂ → Laid (linked slot' g.place g.top l₂) t l₃ → LeftTold σ bs js o slot top l (lowest f g.fault) q (g.top + 1) t l₃
  left-next p q r g l₂ t l₃ e L A K =
      let S : stmts_staged σ js (bare r) ≡ join (stmt_staged σ js (bare p)) (stmts_staged σ js (bare q)) (λ x y. or_unfit (some (x also y)))
      = ap (λ u. stmts_staged σ js (bare u)) e ∙ ap (stmts_staged σ js) (bare-next p q) ∙ stmts-staged σ js (bare p) (bare q) in
      record {
        fault-is = L.fault-is ∙ ap (lowest f) (ap fault_of S ∙ join-fault (λ (x : Act) (y : Acts). x also y) (stmt_staged σ js (bare p)) (stmts_staged σ js (bare q)))
            ∙ rw A.fault-is (lowest-assoc f (fault_of (stmt_staged σ js (bare p))) (fault_of (stmts_staged σ js (bare q))));
        laid = λ a h.
            let b = L.laid a h in
            let z = join-fits (λ (x : Act) (y : Acts). x also y) (stmt_staged σ js (bare p)) (stmts_staged σ js (bare q)) b.0 (sym S ∙ b.1.0) in
            (z.two, (z.two_fits, b.1.1 ∙ ap (λ (x : Acts). lay_acts bs x slot' top' l') (sym z.made) ∙ link-lay bs z.one z.two slot' top' l' g.place g.top l₂ t l₃ (A.laid z.one z.one-fits) K));
        number = λ u h.
            let v = L.number u h in
            bind-some (sym e ∙ v.1.0) λ a ha h'. bind-some h' λ b hb i. (b, (hb, v.1.1 ∙ ap (λ (x : Syntax.Stmts × ℕ). x.1) (sym (some_inj i))));
      }

  left_end : (n : ℕ) (q : ℕ) → LeftTold σ bs js o slot top l f (some (Syntax.done, n)) slot' top' l'
      → ActsTold σ bs js o slot top l (record { fault = f; kind = n; place = 0; next = q; top = top' }) l'
  unfolding stmts_staged staged named ruled stmts_of kept_stmts elab_stmts lay_act ◌>>=◌
  left_end n q L = record {
    fault-is = sym (L.fault-is ∙ lowest-clear f);
    laid = λ a h.
        let b = L.laid a h in
        let E : lay_acts bs a slot top l ≡ out slot' top' l' = b.1.1 ∙ ap (λ (x : Acts). lay_acts bs x slot' top' l') (sym (fits-inj b.1.0)) in
        (ap (λ (x : Out). x.top) (sym E), ap (λ (x : Out). x.list) (sym E));
    number = λ p h. let v = L.number p h in ap (λ (x : Syntax.Stmts × ℕ). x.1) (some_inj v.1.0) ∙ sym v.1.1;
  }

  left-wrong : (r : Option (Syntax.Stmts × ℕ)) (g : Got) (l₂ : List ℕ) → r ≡ none → g.fault ≡ Form → LeftTold σ bs js o slot top l f r slot' top' l' → ActsTold σ bs js o slot top l g l₂
  unfolding stmts_staged staged ◌>>=◌
  left-wrong r g l₂ e h L = record {
    fault-is = h ∙ sym (L.fault-is ∙ rw e (lowest-form f));
    laid = λ a k. let b = L.laid a k in absurd (wrong-fits (rw e at b.1.0));
    number = λ p k. let v = L.number p k in none-some (sym e ∙ v.1.0);
  }

pub none_of : {σ : Environment} {bs js : List ℕ} {top : ℕ} {l : List ℕ} {g : Got} {l' : List ℕ} (o : Option (Syntax.Stmt × ℕ)) → ActTold σ bs js o top l g l' → g.fault ≡ Form → o ≡ none
unfolding stmt_staged ◌>>=◌
none_of none A h = refl
none_of (some p) A h = absurd (some-none (form-none (bare (some p)) _ _ _ (sym A.fault-is ∙ h)))
  where
    some-none : some p.0 ≡ none → ⊥
    some-none h = none-some (sym h)

-- ---- the loop

module _ (s l ts : List ℕ) (scope : Scope) (loops : Loops) (d n slot at top : ℕ) where
  pub acts-start : (g : Got) → g ≡ skip_got n at top → Doing s l ts scope loops d n slot at top g slot l
  acts-start g e = rw e (record {
    around = refl;
    keeps = λ h. same_refl;
    above = λ h. omega arith;
    grows = omega arith;
    few-left = λ σ bs js A h. A.few;
    says = λ σ bs js A h. record { fault-is = refl; laid = λ a k. (a, (k, refl)); number = λ p k. (p, (k, refl)) };
  })

  module _ (x : Got) (slot' : ℕ) (l₁ : List ℕ) (D : Doing s l ts scope loops d n slot at top x slot' l₁) where
    inside : (σ : Environment) (bs js : List ℕ) → Around s l ts scope loops d n at slot σ bs js → slot ≤ top → Around s l₁ ts scope loops d x.kind x.next x.top σ bs js
    inside σ bs js A h = record {
      scene = scene-kept A.scene (D.keeps h) (let y = D.grows in omega arith);
      in-force = A.in-force;
      few-loops = let w = A.few-loops in omega arith;
      few = D.few-left σ bs js A h;
    }

    pub acts-end : (e : Maybe ℕ) (q : ℕ) (r : Got) → Shuts s x.next e → e ≡ Some q → r ≡ record { fault = x.fault; kind = x.kind; place = 0; next = q; top = x.top }
        → GivesActs s l ts scope loops d n slot at top r l₁
    unfolding stmts_in
    acts-end e q r h z k =
        let S : ShutAt s x.next q = rw z at h.says in
        rw k (record {
          goes = λ _. D.around ∙ S.around;
          keeps = D.keeps;
          grows = D.grows;
          says = λ σ bs js A i. left_end x.kind q (rw S.here at (D.says σ bs js A i));
        })

    module _ (e : Maybe ℕ) (h : Shuts s x.next e) (z : e ≡ None) (g : Got) (l₂ : List ℕ) (G : GivesStmt s l₁ ts scope loops d x.kind x.next x.top g l₂) (t : Bool) (k : t ≡ is_form g.fault) where
      kept₂ : slot ≤ top → Same 0 slot l₂ l
      kept₂ i = record { at = λ j a b. G.moves.keeps.at j a (let y = D.grows in omega arith) ∙ (D.keeps i).at j a b }

      pub acts-wrong : t ≡ true → GivesActs s l ts scope loops d n slot at top g l₂
      acts-wrong i = record {
        goes = λ j. absurd (true≢false (sym (sym k ∙ i) ∙ j));
        keeps = kept₂;
        grows = let y = D.grows in let u = G.moves.grows in omega arith;
        says = λ σ bs js A j.
            let f = form-is g.fault (sym k ∙ i) in
            left-wrong (stmts_in d x.kind (first (stack_at s x.next))) g l₂
            (stmts-none d x.kind (first (stack_at s x.next)) (rw z at h.says) (none_of (stmt_in d x.kind (first (stack_at s x.next))) (G.says σ bs js (inside σ bs js A j)) f)) f (D.says σ bs js A j);
      }

      module _ (i : t ≡ false) where
        parts : (u : Tree Run) × (first (stack_at s x.next) ≡ (u then first (stack_at s g.next)))
        parts = let b = G.moves.goes (sym k ∙ i) in (b.0, b.1.here)

        pub acts-falls : many (first (stack_at s g.next)) < many (first (stack_at s x.next))
        unfolding many
        acts-falls = rw parts.1 (omega arith)

        pub acts-next : (u : ℕ) (l₃ : List ℕ) (y : Got) (f : Fault) (w : ℕ) → Laid (linked slot' g.place g.top l₂) u l₃ → f ≡ lowest x.fault g.fault → w ≡ g.top + 1
            → y ≡ record { fault = f; kind = g.kind; place = 0; next = g.next; top = u } → Doing s l ts scope loops d n slot at top y w l₃
        unfolding linked link
        acts-next u l₃ y f w K ef ew ey =
            let G₁ = lay-g (g.place ∷ 0 ∷ []) g.top l₂ in
            rw (ey, ew, ef) (record {
              around = D.around ∙ (G.moves.goes (sym k ∙ i)).1.around;
              keeps = λ j.
                  let v = D.above j in let b = D.grows in let m = G.moves.grows in
                  record { at = λ a p q. rw K.left (get_or-set_other (lay (g.place ∷ 0 ∷ []) g.top l₂).list slot' a (lay (g.place ∷ 0 ∷ []) g.top l₂).pos 0 (omega arith) ∙ G₁.below a (omega arith) ∙ (kept₂ j).at a p q) };
              above = λ j. let b = D.grows in let m = G.moves.grows in omega arith;
              grows = let b = D.grows in let m = G.moves.grows in let v = G₁.up in rw K.free (omega arith);
              few-left = λ σ bs js A j.
                  let T = G.says σ bs js (inside σ bs js A j) in
                  let p = some_of (stmt_in d x.kind (first (stack_at s x.next))) T (sym k ∙ i) in
                  let m = stmt-count d x.kind (first (stack_at s x.next)) p.0 p.1 in
                  let b = D.few-left σ bs js A j in
                  let c = T.number p.0 p.1 in
                  let v : nodes_in (rest (first (stack_at s x.next))) ≡ nodes_in (first (stack_at s g.next)) = ap (λ (a : Trees Run). nodes_in (rest a)) parts.1 in
                  omega arith;
              says = λ σ bs js A j.
                  let T = G.says σ bs js (inside σ bs js A j) in
                  let p = some_of (stmt_in d x.kind (first (stack_at s x.next))) T (sym k ∙ i) in
                  let q : stmts_in d x.kind (first (stack_at s x.next)) ≡ (stmt_in d x.kind (first (stack_at s x.next)) >>= λ a. stmts_in d g.kind (first (stack_at s g.next)) >>= λ b. some (Syntax.◌next◌ a.0 b.0, b.1))
                  = rw (T.number p.0 p.1) (stmts-first d x.kind parts.0 (first (stack_at s g.next)) (first (stack_at s x.next)) p.0 parts.1 p.1) in
                  left-next (stmt_in d x.kind (first (stack_at s x.next))) (stmts_in d g.kind (first (stack_at s g.next))) (stmts_in d x.kind (first (stack_at s x.next))) g l₂ u l₃ q (D.says σ bs js A j) T K;
            })
