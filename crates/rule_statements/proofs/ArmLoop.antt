-- The loop over the arms of a `case`.
use mathlib.Core.Path.{◌≡◌, refl, sym, ap, ◌∙◌}
use mathlib.Core.Bool.{Bool, true, false, true≢false}
use mathlib.Core.List.{List, [], ◌∷◌}
use mathlib.Core.Option.{Option, none, some}
use Prim.Native.Nat.{ℕ, suc, ◌+◌, ◌<◌, ◌≤◌}
use native.Mathlib.Omega.{arith}
use lib.IntN.{ℤ}
use lib.ListN.{get_or}
use lib.Seq.{get_or-set_other}
use Rattle.law.specs.Base.{◌>>=◌}
use Rattle.law.specs.Code.{Act, Cases, else_case, one_case}
use Rattle.law.specs.Elaborate.{elab_arms}
use Rattle.law.specs.Environment.{Environment}
use Rattle.law_theorems.specs.FormsByDepth as ByDepth
use Rattle.law.specs.Forms.{is_arm, is_else}
use Rattle.code.specs.Layout.{Out, out, lay, link, lay_labels, lay_act, lay_cases}
use Rattle.law.specs.Names.{arms_of}
use Rattle.law.specs.Rules.{kept_arms}
use Rattle.rule_stages.specs.Stages.{Staged, fits, staged, named, ruled, join, on_fits, or_unfit, labels_staged, stmt_staged, arms_staged}
use Rattle.law.specs.Syntax as Syntax
use Rattle.law.specs.Trees.{word, form, Trees, end, ◌then◌, Run, first, later, nodes, nodes_in}
use Rattle.law_theorems.specs.Readings.{stack_at}
use Rattle.law_theorems.proofs.Inversion.{none-some, some_inj, bind-some}
use Rattle.code.proofs.LayoutRegions.{lay-g}
use Rattle.code.specs.LayoutRegions.{Same}
use Rattle.rule_stages.proofs.OnePassStmts.{arm-staged, else-staged}
use Rattle.rule_stages.proofs.Staging.{pair}
use Rattle.text_heads.specs.Parts.{part_of, rest, closed, stmt_in, arm_in, arms_in, else_arm_in}
use Rattle.table_scope.specs.declared.Scope.{Scope}
use Rattle.rule_faults.specs.declared.Fault.{Fault}
use Rattle.rule_faults.specs.declared.Fault.TheVariants.{Form}
use Rattle.table_scope.specs.declared.Loops.{Loops}
use Rattle.table_scope.specs.Scene.{Scene}
use Rattle.table_scope.proofs.Kept.{scene-kept}
use Rattle.table_list.specs.Laid.{Laid}
use Rattle.rule_faults.specs.declared.Got.{Got}
use Rattle.rule_faults.specs.Got.{lowest, is_form, fault_of, failed_got}
use Rattle.rule_faults.proofs.Order.{lowest-assoc, lowest-clear}
use Rattle.text_parts.specs.Parts.{ShutAt}
use Rattle.rule_expr_nodes.specs.Bracket.{Closes}
use Rattle.rule_expr_nodes.specs.Nodes.{Makes}
use Rattle.rule_expressions.specs.Walks.{Moves, Leaves}
use Rattle.rule_expressions.proofs.Joining.{fits-inj}
use Rattle.rule_statements.specs.declared.arms.NextArm.{NextArm}
use Rattle.rule_statements.specs.declared.arms.NextArm.TheVariants as next-arm
use Rattle.rule_stmt_nodes.specs.Nodes.{skip_got, joined_got, finished_got}
use Rattle.rule_statements.specs.Walks.{bare, ActTold, Around, GivesStmt}
use Rattle.rule_statements.specs.Chains.{many}
use Rattle.rule_statements.specs.Cases.{LabelsTold, GivesLabels, ArmFormAt, ArmComes, arm_made, stmt-parts, ArmBy, arm-parts, ElseBy, else-parts, ArmsLeft, Arming, ArmsTold, GivesArms}
use Rattle.rule_statements.proofs.Faults.{lowest-form, form-right, form-is, form-none, join-fault, join-fits, on-fault, on-fits, closes-leaves, same_refl, act-closed}
use Rattle.rule_statements.proofs.Acts.{some_of}
use Rattle.rule_statements.proofs.Shapes.{stmt-count}
use Rattle.rule_statements.proofs.ArmWays.{arms-head, arms-else}

-- ---- stages and layouts

-- arms from their parts
abbrev arm_read : List Syntax.Constant → Syntax.Stmt × ℕ → Syntax.Arms × ℕ → Option (Syntax.Arms × ℕ)
arm_read cs p z = some (Syntax.arm cs p.0 z.0, z.1)

abbrev else_read : Syntax.Stmt × ℕ → Option (Syntax.Arms × ℕ)
else_read p = some (Syntax.else_arm p.0, p.1)

bare-arm : (F : Option (List Syntax.Constant)) (P : Option (Syntax.Stmt × ℕ)) (q : Option (Syntax.Arms × ℕ))
    → bare (F >>= λ cs. P >>= λ p. q >>= λ z. arm_read cs p z) ≡ (F >>= λ x. bare P >>= λ y. bare q >>= λ z. some (Syntax.arm x y z))
unfolding ◌>>=◌
bare-arm none P q = refl
bare-arm (some cs) none q = refl
bare-arm (some cs) (some p) none = refl
bare-arm (some cs) (some p) (some z) = refl

bare-else : (P : Option (Syntax.Stmt × ℕ)) → bare (P >>= λ p. else_read p) ≡ (bare P >>= λ x. some (Syntax.else_arm x))
unfolding ◌>>=◌
bare-else none = refl
bare-else (some p) = refl

-- the number that the other arms begin with
arms-fixed : (d m : ℕ) (ts : Trees Run) (F : Option (List Syntax.Constant)) (P : Option (Syntax.Stmt × ℕ)) (o : Option (List Syntax.Constant × (Syntax.Stmt × ℕ))) → o ≡ (F >>= λ cs. P >>= λ p. some (cs, p))
    → ((p : Syntax.Stmt × ℕ) → P ≡ some p → m ≡ p.1)
    → (o >>= λ a. arms_in d a.1.1 ts >>= λ bs. some (Syntax.arm a.0 a.1.0 bs.0, bs.1)) ≡ (F >>= λ cs. P >>= λ p. arms_in d m ts >>= λ z. arm_read cs p z)
unfolding ◌>>=◌
arms-fixed d m ts none P o e h = rw e refl
arms-fixed d m ts (some cs) none o e h = rw e refl
arms-fixed d m ts (some cs) (some p) o e h = rw (e, h p refl) refl

else-split : (d n : ℕ) (us ts : Trees Run) → else_arm_in d n us ts ≡ (((stmt_in d n us >>= λ p. closed (rest us) p) >>= λ p. closed ts p) >>= λ p. else_read p)
unfolding else_arm_in stmt_in closed ◌>>=◌
else-split d n us end = go (part_of us >>= ByDepth.stmt d n) (rest us)
  where
    go : (o : Option (Syntax.Stmt × ℕ)) (vs : Trees Run) → (o >>= λ p. closed vs (Syntax.else_arm p.0, p.1)) ≡ (((o >>= λ p. closed vs p) >>= λ p. closed end p) >>= λ p. else_read p)
    go none vs = refl
    go (some p) end = refl
    go (some p) (t then ts) = refl
else-split d n us (t then ts) = nothing (stmt_in d n us >>= λ p. closed (rest us) p)
  where
    nothing : (o : Option (Syntax.Stmt × ℕ)) → none ≡ ((o >>= λ p. closed (t then ts) p) >>= λ p. else_read p)
    nothing none = refl
    nothing (some p) = refl

pub lay-is : (ns : List ℕ) (top : ℕ) (l : List ℕ) (t : ℕ) (l₁ : List ℕ) → Laid (lay ns top l) t l₁ → lay ns top l ≡ out top t l₁
unfolding lay
lay-is ns top l t l₁ K = rw (K.free, K.left) refl

lay-pos : (ns : List ℕ) (top : ℕ) (l : List ℕ) → (lay ns top l).pos ≡ top
unfolding lay
lay-pos ns top l = refl

arm-lay : (bs : List ℕ) (zs : List ℤ) (x : Act) (y : Cases) (slot top : ℕ) (l : List ℕ) (t : ℕ) (l₁ : List ℕ) (g b a : Got) (l₂ l₃ l₄ : List ℕ) → Laid (lay (0 ∷ []) top l) t l₁
    → g.top ≡ (lay_labels zs top t l₁).top → l₂ ≡ (lay_labels zs top t l₁).list → out b.place b.top l₃ ≡ lay_act bs x g.top l₂ → Makes (arm_made l₃ slot top g b) a l₄
    → lay_cases bs (one_case zs x y) slot top l ≡ lay_cases bs y (a.place + 2) a.top l₄
unfolding lay_act arm_made link
arm-lay bs zs x y slot top l t l₁ g b a l₂ l₃ l₄ K e f i M =
    rw (lay-is (0 ∷ []) top l t l₁ K, ← e, ← f, ← i, M.given, M.left, lay-pos (top ∷ b.place ∷ 0 ∷ []) b.top l₃) refl

else-lay : (bs : List ℕ) (x : Act) (slot top : ℕ) (l : List ℕ) (g b a : Got) (l₃ l₄ : List ℕ) → out b.place b.top l₃ ≡ lay_act bs x top l → Makes (arm_made l₃ slot 0 g b) a l₄
    → (a.top ≡ (lay_cases bs (else_case x) slot top l).top) × (l₄ ≡ (lay_cases bs (else_case x) slot top l).list)
unfolding lay_act arm_made link
else-lay bs x slot top l g b a l₃ l₄ i M = rw (← i, M.given, M.left) (refl, refl)

-- what a link leaves
record ArmLink (l : List ℕ) (slot head : ℕ) (g b a : Got) (l' : List ℕ) : Type 0 where
  made : Makes (arm_made l slot head g b) a l'
  fault-is : a.fault ≡ lowest g.fault b.fault
  kind-is : a.kind ≡ b.kind
  next-is : a.next ≡ b.next
  place_is : a.place ≡ b.top
  up : b.top ≤ a.top
  below : (i : ℕ) → i < slot → i < b.top → get_or l' i 0 ≡ get_or l i 0

arm-link : (l : List ℕ) (slot head : ℕ) (g b a : Got) (l' : List ℕ) → Makes (arm_made l slot head g b) a l' → ArmLink l slot head g b a l'
unfolding arm_made link
arm-link l slot head g b a l' M = record {
  made = M;
  fault-is = ap (λ (x : Got). x.fault) M.given;
  kind-is = ap (λ (x : Got). x.kind) M.given;
  next-is = ap (λ (x : Got). x.next) M.given;
  place_is = ap (λ (x : Got). x.place) M.given;
  up = rw M.given (lay-g (head ∷ b.place ∷ 0 ∷ []) b.top l).up;
  below = λ i p q. rw M.left (get_or-set_other (lay (head ∷ b.place ∷ 0 ∷ []) b.top l).list slot i (lay (head ∷ b.place ∷ 0 ∷ []) b.top l).pos 0 (omega arith) ∙ (lay-g (head ∷ b.place ∷ 0 ∷ []) b.top l).below i q);
}

module _ (σ : Environment) (js : List ℕ) (k : ℕ) (F : Option (List Syntax.Constant)) (P : Option (Syntax.Stmt × ℕ)) where
  abbrev labelled : Staged (List ℤ × Act)
  labelled = join (labels_staged σ k F) (stmt_staged σ js (bare P)) (λ zs x. or_unfit (some (pair zs x)))

  arms-staged : (q r : Option (Syntax.Arms × ℕ)) → r ≡ (F >>= λ cs. P >>= λ p. q >>= λ z. arm_read cs p z)
      → arms_staged σ js k (bare r) ≡ join labelled (arms_staged σ js k (bare q)) (λ p y. or_unfit (some (one_case p.0 p.1 y)))
  arms-staged q r e = ap (λ u. arms_staged σ js k (bare u)) e ∙ ap (arms_staged σ js k) (bare-arm F P q) ∙ arm-staged σ js k F (bare P) (bare q)

arms-wrong : {σ : Environment} {bs js : List ℕ} {k : ℕ} {o : Option (Syntax.Arms × ℕ)} {slot top : ℕ} {l : List ℕ} (g : Got) (l₂ : List ℕ) → fault_of (arms_staged σ js k (bare o)) ≡ Form → g.fault ≡ Form → ArmsTold σ bs js k o slot top l g l₂
unfolding arms_staged ◌>>=◌
arms-wrong {σ} {bs} {js} {k} {o} g l₂ h e = record {
  fault-is = e ∙ sym h;
  laid = λ a i. absurd (true≢false (sym (ap is_form (sym (ap fault_of i) ∙ h))));
  number = λ p i. none-some (sym (form-none (bare o) (arms_of σ) (λ b. kept_arms b js) (elab_arms σ.types σ.vars k) h) ∙ ap bare i);
}

module _ {σ : Environment} {bs js : List ℕ} {k : ℕ} {o : Option (Syntax.Arms × ℕ)} {slot top : ℕ} {l : List ℕ} {f : Fault} {slot' top' : ℕ} {l' : List ℕ} where
  module _ (F : Option (List Syntax.Constant)) (P : Option (Syntax.Stmt × ℕ)) (q r : Option (Syntax.Arms × ℕ)) (e : r ≡ (F >>= λ cs. P >>= λ p. q >>= λ z. arm_read cs p z)) where
    arm-next : (t : ℕ) (l₁ : List ℕ) (g b a : Got) (l₂ l₃ l₄ : List ℕ) → ArmsLeft σ bs js k o slot top l f r slot' top' l' → Laid (lay (0 ∷ []) top' l') t l₁ → g.fault ≡ fault_of (labels_staged σ k F)
        → ((zs : List ℤ) → labels_staged σ k F ≡ fits zs → (g.top ≡ (lay_labels zs top' t l₁).top) × (l₂ ≡ (lay_labels zs top' t l₁).list)) → ActTold σ bs js P g.top l₂ b l₃ → ArmLink l₃ slot' top' g b a l₄
        → ArmsLeft σ bs js k o slot top l (lowest f a.fault) q (a.place + 2) a.top l₄
    arm-next t l₁ g b a l₂ l₃ l₄ L K gf gl A M = record {
      fault-is = L.fault-is ∙ ap (lowest f) (ap fault_of (arms-staged σ js k F P q r e) ∙ join-fault (λ (p : List ℤ × Act) (y : Cases). one_case p.0 p.1 y) (labelled σ js k F P) (arms_staged σ js k (bare q))
          ∙ ap (λ z. lowest z (fault_of (arms_staged σ js k (bare q)))) (join-fault (λ (zs : List ℤ) (x : Act). pair zs x) (labels_staged σ k F) (stmt_staged σ js (bare P)) ∙ sym (M.fault-is ∙ rw (gf, A.fault-is) refl)))
          ∙ lowest-assoc f a.fault (fault_of (arms_staged σ js k (bare q)));
      laid = λ c h.
          let u = L.laid c h in
          let z = join-fits (λ (p : List ℤ × Act) (y : Cases). one_case p.0 p.1 y) (labelled σ js k F P) (arms_staged σ js k (bare q)) u.0 (sym (arms-staged σ js k F P q r e) ∙ u.1.0) in
          let w = join-fits (λ (zs : List ℤ) (x : Act). pair zs x) (labels_staged σ k F) (stmt_staged σ js (bare P)) z.one z.one-fits in
          let v = gl w.one w.one-fits in (
            z.two,
            (
              z.two_fits,
              u.1.1 ∙ ap (λ (y : Cases). lay_cases bs y slot' top' l') (sym z.made) ∙ ap (λ (p : List ℤ × Act). lay_cases bs (one_case p.0 p.1 z.two) slot' top' l') (sym w.made)
                  ∙ arm-lay bs w.one w.two z.two slot' top' l' t l₁ g b a l₂ l₃ l₄ K v.0 v.1 (A.laid w.two w.two_fits) M.made,
            ),
          );
      number = λ u h.
          let v = L.number u h in
          bind-some (sym e ∙ v.1.0) λ cs hc h'. bind-some h' λ p hp h''. bind-some h'' λ z hz i. (z, (hz, v.1.1 ∙ ap (λ (x : Syntax.Arms × ℕ). x.1) (sym (some_inj i))));
    }

  arms_end : (n q : ℕ) → ArmsLeft σ bs js k o slot top l f (some (Syntax.no_else, n)) slot' top' l' → ArmsTold σ bs js k o slot top l (record { fault = f; kind = n; place = 0; next = q; top = top' }) l'
  unfolding arms_staged staged named ruled arms_of kept_arms elab_arms lay_act ◌>>=◌
  arms_end n q L = record {
    fault-is = sym (L.fault-is ∙ lowest-clear f);
    laid = λ a h.
        let b = L.laid a h in
        let E : lay_cases bs a slot top l ≡ out slot' top' l' = b.1.1 ∙ ap (λ (x : Cases). lay_cases bs x slot' top' l') (sym (fits-inj b.1.0)) in
        (ap (λ (x : Out). x.top) (sym E), ap (λ (x : Out). x.list) (sym E));
    number = λ p h. let v = L.number p h in ap (λ (x : Syntax.Arms × ℕ). x.1) (some_inj v.1.0) ∙ sym v.1.1;
  }

  arms_last : (P : Option (Syntax.Stmt × ℕ)) (r : Option (Syntax.Arms × ℕ)) (g b a : Got) (l₃ l₄ : List ℕ) → r ≡ (P >>= λ p. else_read p) → f ≡ g.fault → ArmsLeft σ bs js k o slot top l f r slot' top' l'
      → ActTold σ bs js P top' l' b l₃ → ArmLink l₃ slot' 0 g b a l₄ → ArmsTold σ bs js k o slot top l a l₄
  arms_last P r g b a l₃ l₄ e ef L A M =
      let S : arms_staged σ js k (bare r) ≡ on_fits (stmt_staged σ js (bare P)) (λ x. or_unfit (some (else_case x)))
      = ap (λ u. arms_staged σ js k (bare u)) e ∙ ap (arms_staged σ js k) (bare-else P) ∙ else-staged σ js k (bare P) in
      record {
        fault-is = M.fault-is ∙ rw (← ef, A.fault-is) refl ∙ sym (L.fault-is ∙ ap (lowest f) (ap fault_of S ∙ on-fault (λ (x : Act). else_case x) (stmt_staged σ js (bare P))));
        laid = λ c h.
            let u = L.laid c h in
            let z = on-fits (λ (x : Act). else_case x) (stmt_staged σ js (bare P)) u.0 (sym S ∙ u.1.0) in
            let E : lay_cases bs c slot top l ≡ lay_cases bs (else_case z.part) slot' top' l' = u.1.1 ∙ ap (λ (y : Cases). lay_cases bs y slot' top' l') (sym z.made) in
            let w = else-lay bs z.part slot' top' l' g b a l₃ l₄ (A.laid z.part z.part-fits) M.made in
            (w.0 ∙ ap (λ (x : Out). x.top) (sym E), w.1 ∙ ap (λ (x : Out). x.list) (sym E));
        number = λ p h.
            let v = L.number p h in
            bind-some (sym e ∙ v.1.0) λ y hy i. M.kind-is ∙ A.number y hy ∙ ap (λ (x : Syntax.Arms × ℕ). x.1) (some_inj i) ∙ sym v.1.1;
      }

-- ---- the loop

closed_is : {A : Type 0} (ts : Trees Run) (a p : A) → closed ts a ≡ some p → a ≡ p
unfolding closed
closed_is end a p h = some_inj h
closed_is (t then ts) a p h = none-some h

module _ (s l ts : List ℕ) (scope : Scope) (loops : Loops) (k d n slot at top : ℕ) where
  pub arms_start : (g : Got) → g ≡ skip_got n at top → Arming s l ts scope loops k d n slot at top g slot l
  arms_start g e = rw e (record {
    around = refl;
    keeps = λ h. same_refl;
    above = λ h. omega arith;
    grows = omega arith;
    few-left = λ σ bs js A h. A.few;
    says = λ σ bs js A h. record { fault-is = refl; laid = λ a i. (a, (i, refl)); number = λ p i. (p, (i, refl)) };
  })

  module _ (x : Got) (slot' : ℕ) (l₀ : List ℕ) (D : Arming s l ts scope loops k d n slot at top x slot' l₀) (e : NextArm) (E : ArmComes s x.next e) where
    arms-inside : (σ : Environment) (bs js : List ℕ) → Around s l ts scope loops d n at slot σ bs js → slot ≤ top → Around s l₀ ts scope loops d x.kind x.next x.top σ bs js
    arms-inside σ bs js A h = record {
      scene = scene-kept A.scene (D.keeps h) (let y = D.grows in omega arith);
      in-force = A.in-force;
      few-loops = let w = A.few-loops in omega arith;
      few = D.few-left σ bs js A h;
    }

    pub arms-past : (q : ℕ) (r : Got) → e ≡ next-arm.Past q → r ≡ finished_got x q → GivesArms s l ts scope loops k d n slot at top r l₀
    unfolding arms_in
    arms-past q r h m =
        let Z : ShutAt s x.next q = rw h at E.says in
        rw m (record {
          goes = λ _. D.around ∙ Z.around;
          keeps = D.keeps;
          grows = D.grows;
          says = λ σ bs js A i. arms_end x.kind q (rw Z.here at (D.says σ bs js A i));
        })

    pub arms-nothing : (r : Got) → e ≡ next-arm.Nothing → r ≡ failed_got Form 0 x.next x.top → GivesArms s l ts scope loops k d n slot at top r l₀
    unfolding arms_staged staged ◌>>=◌
    arms-nothing r h m =
        let Z : (d n : ℕ) → arms_in d n (first (stack_at s x.next)) ≡ none = rw h at E.says in
        rw m (record {
          goes = λ i. absurd (true≢false i);
          keeps = D.keeps;
          grows = D.grows;
          says = λ σ bs js A i. arms-wrong _ l₀ ((D.says σ bs js A i).fault-is ∙ rw (Z d x.kind) (lowest-form x.fault)) refl;
        })

    -- an `else`
    pub arms-other : (q : ℕ) (r : Got) (l' : List ℕ) → e ≡ next-arm.Else q → ElseBy s l₀ ts scope loops d slot' x q r l' → GivesArms s l ts scope loops k d n slot at top r l'
    unfolding nodes
    arms-other q r l' h (else-parts a b c l₁ G C C' MK) =
        let F : ArmFormAt is_else s x.next q = rw h at E.says in
        let M = arm-link l₁ slot' 0 x c r l' MK in
        let V₁ = closes-leaves G.moves C in
        let moved : Moves s x.next x.top l₀ b l₁ = record {
          goes = λ i. (
            form (word F.head then first (stack_at s q)),
            record {
              here = F.here ∙ ap (λ (z : List (Trees Run)). form (word F.head then first (stack_at s q)) then first z) (V₁.goes i);
              around = F.around ∙ ap later (V₁.goes i);
            },
          );
          keeps = V₁.keeps;
          grows = V₁.grows;
        } in
        let V₂ = closes-leaves moved C' in
        let gr = D.grows in let gu = V₂.grows in let mu = M.up in
        record {
          goes = λ i. D.around ∙ V₂.goes (form-right x.fault c.fault (ap is_form (sym M.fault-is) ∙ i)) ∙ ap (stack_at s) (sym M.next-is);
          keeps = λ i. let av = D.above i in record { at = λ j u v. M.below j (omega arith) (omega arith) ∙ V₂.keeps.at j u (omega arith) ∙ (D.keeps i).at j u v };
          grows = omega arith;
          says = λ σ bs js A i.
              let B = arms-inside σ bs js A i in
              let fw : nodes_in (first (stack_at s x.next)) ≡ suc (1 + nodes_in (first (stack_at s q))) + nodes_in (first (later (stack_at s q))) = ap nodes_in F.here in
              let bf = B.few in
              let T = G.says σ bs js (record { scene = B.scene; in-force = B.in-force; few-loops = let w = B.few-loops in omega arith; few = omega arith }) in
              let T₁ = act-closed (stmt_in d x.kind (first (stack_at s q))) G.moves C T in
              let T₂ = act-closed (stmt_in d x.kind (first (stack_at s q)) >>= λ p. closed (rest (first (stack_at s q))) p) moved C' T₁ in
              let R : arms_in d x.kind (first (stack_at s x.next)) ≡ (((stmt_in d x.kind (first (stack_at s q)) >>= λ p. closed (rest (first (stack_at s q))) p) >>= λ p. closed (rest (first (stack_at s x.next))) p) >>= λ p. else_read p)
              = rw F.here (arms-else d x.kind F.head (first (stack_at s q)) (first (later (stack_at s q))) F.headed ∙ else-split d x.kind (first (stack_at s q)) (first (later (stack_at s q)))) in
              arms_last _ (arms_in d x.kind (first (stack_at s x.next))) x c r l₁ l' R refl (D.says σ bs js A i) T₂ M;
        }

    -- an arm
    module _ (q : ℕ) (h : e ≡ next-arm.Arm q) where
      arm-form : ArmFormAt is_arm s x.next q
      arm-form = rw h at E.says

      module _ (t : ℕ) (g a b r : Got) (l₁ l₂ l₃ l' : List ℕ) (K : Laid (lay (0 ∷ []) x.top l₀) t l₁) (GL : GivesLabels s l₁ scope k x.top q t g l₂)
          (G : GivesStmt s l₂ ts scope loops d x.kind g.next g.top a l₃) (C : Closes s a b) (M : ArmLink l₃ slot' x.top g b r l') where
        slot_grows : x.top ≤ t
        slot_grows = rw K.free (lay-g (0 ∷ []) x.top l₀).up

        leaves-stmt : Leaves s g.next g.top l₂ b l₃
        leaves-stmt = closes-leaves G.moves C

        top-grows : x.top ≤ b.top
        top-grows = let u = slot_grows in let v = GL.grows in let w = leaves-stmt.grows in omega arith

        all-below : Same 0 x.top l₃ l₀
        all-below = let u = slot_grows in let v = GL.grows in record {
          at = λ i y z.
              leaves-stmt.keeps.at i y (omega arith) ∙ (GL.keeps u).at i y z ∙ rw K.left ((lay-g (0 ∷ []) x.top l₀).below i z);
        }

        arm-keeps : slot ≤ top → Same 0 slot l' l
        arm-keeps i = let av = D.above i in let gr = D.grows in let u = top-grows in record { at = λ j y z. M.below j (omega arith) (omega arith) ∙ all-below.at j y (omega arith) ∙ (D.keeps i).at j y z }

        arm-grows : top ≤ r.top
        arm-grows = let u = top-grows in let v = M.up in let w = D.grows in omega arith

        arm_goes : is_form r.fault ≡ false → later (stack_at s q) ≡ stack_at s r.next
        arm_goes i = GL.around ∙ leaves-stmt.goes (form-right g.fault b.fault (ap is_form (sym M.fault-is) ∙ i)) ∙ ap (stack_at s) (sym M.next-is)

        abbrev parts-left : Trees Run
        parts-left = first (stack_at s g.next)

        abbrev last-stmt : Option (Syntax.Stmt × ℕ)
        last-stmt = stmt_in d x.kind (first (stack_at s g.next)) >>= λ p. closed (rest (first (stack_at s g.next))) p

        module _ (σ : Environment) (bs js : List ℕ) (A : Around s l ts scope loops d n at slot σ bs js) (i : slot ≤ top) where
          arm-size : x.kind + suc (1 + nodes_in (first (stack_at s q))) + nodes_in (first (later (stack_at s q))) ≤ 65535
          unfolding nodes
          arm-size = let fw : nodes_in (first (stack_at s x.next)) ≡ suc (1 + nodes_in (first (stack_at s q))) + nodes_in (first (later (stack_at s q))) = ap nodes_in arm-form.here in let bf = D.few-left σ bs js A i in omega arith

          slot-scene : Scene s l₁ ts scope x.top σ bs
          slot-scene = scene-kept (arms-inside σ bs js A i).scene (record { at = λ j y z. rw K.left ((lay-g (0 ∷ []) x.top l₀).below j z) }) (omega arith)

          labels-told : LabelsTold σ k (first (stack_at s q)) x.top t l₁ g (first (stack_at s g.next)) l₂
          labels-told = GL.says ts σ bs slot-scene slot_grows

          stmt-told : ActTold σ bs js (stmt_in d x.kind (first (stack_at s g.next))) g.top l₂ a l₃
          stmt-told =
              let u = slot_grows in let v = GL.grows in let f = GL.fewer in let z = arm-size in
              G.says σ bs js (record {
                scene = scene-kept slot-scene (GL.keeps u) (omega arith);
                in-force = A.in-force;
                few-loops = let w = A.few-loops in omega arith;
                few = omega arith;
              })

          closed-told : ActTold σ bs js last-stmt g.top l₂ b l₃
          closed-told = act-closed (stmt_in d x.kind (first (stack_at s g.next))) G.moves C stmt-told

          arm-left : ArmsLeft σ bs js k (arms_in d n (first (stack_at s at))) slot top l (lowest x.fault r.fault) (arms_in d r.kind (first (later (stack_at s q)))) (r.place + 2) r.top l'
          arm-left =
              let P = closed-told in
              let R : arms_in d x.kind (first (stack_at s x.next)) ≡ (labels-told.found >>= λ cs. last-stmt >>= λ p. arms_in d r.kind (first (later (stack_at s q))) >>= λ z. arm_read cs p z)
              = rw arm-form.here (arms-head d x.kind arm-form.head (first (stack_at s q)) (first (later (stack_at s q))) arm-form.headed
              ∙ arms-fixed d r.kind (first (later (stack_at s q))) labels-told.found last-stmt (arm_in d x.kind (first (stack_at s q))) (labels-told.reads d x.kind) (λ p w. M.kind-is ∙ P.number p w)) in
              arm-next labels-told.found last-stmt (arms_in d r.kind (first (later (stack_at s q)))) (arms_in d x.kind (first (stack_at s x.next))) R t l₁ g b r l₂ l₃ l' (D.says σ bs js A i) K labels-told.fault-is labels-told.laid P M

          arm-few : is_form r.fault ≡ false → r.kind + nodes_in (first (later (stack_at s q))) ≤ 65535
          arm-few j =
              let p = some_of last-stmt closed-told (form-right g.fault b.fault (ap is_form (sym M.fault-is) ∙ j)) in
              let v = M.kind-is ∙ closed-told.number p.0 p.1 in
              bind-some p.1 λ c hc e.
              let m = stmt-count d x.kind (first (stack_at s g.next)) c hc in
              let w = ap (λ (z : Syntax.Stmt × ℕ). z.1) (closed_is (rest (first (stack_at s g.next))) c p.0 e) in
              let f = GL.fewer in let z = arm-size in
              omega arith

        told-wrong : is_form r.fault ≡ true → GivesArms s l ts scope loops k d n slot at top r l'
        told-wrong i = record {
          goes = λ j. absurd (true≢false (sym i ∙ j));
          keeps = arm-keeps;
          grows = arm-grows;
          says = λ σ bs js A j. arms-wrong r l' ((arm-left σ bs js A j).fault-is ∙ rw (form-is r.fault i, lowest-form x.fault) refl) (form-is r.fault i);
        }

        told-next : is_form r.fault ≡ false → (y : Got) (w : ℕ) → w ≡ r.place + 2 → y ≡ joined_got x r r.top → Arming s l ts scope loops k d n slot at top y w l'
        told-next i y w ew ey = rw (ey, ew) (record {
          around = D.around ∙ arm-form.around ∙ ap later (arm_goes i);
          keeps = arm-keeps;
          above = λ j. let u = top-grows in let v = M.place_is in let z = D.grows in omega arith;
          grows = arm-grows;
          few-left = λ σ bs js A j. rw (ap first (sym (arm_goes i))) (arm-few σ bs js A j i);
          says = λ σ bs js A j. rw (ap first (sym (arm_goes i))) (arm-left σ bs js A j);
        })

        told-falls : is_form r.fault ≡ false → (y : Got) → y ≡ joined_got x r r.top → many (first (stack_at s y.next)) < many (first (stack_at s x.next))
        unfolding many
        told-falls i y ey = rw (ey, arm-form.here, ap first (sym (arm_goes i))) (omega arith)

      module _ (r : Got) (l' : List ℕ) (t : Bool) (et : t ≡ is_form r.fault) where
        pub arms-stop : ArmBy s l₀ ts scope loops k d x.kind slot' q x.top r l' → t ≡ true → GivesArms s l ts scope loops k d n slot at top r l'
        arms-stop (arm-parts u v g l₁ l₂ K ev GL (stmt-parts a b l₃ G C MK)) i = told-wrong u g a b r l₁ l₂ l₃ l' K (rw ev at GL) G C (arm-link l₃ slot' x.top g b r l' MK) (sym et ∙ i)

        pub arms-falls : (y : Got) → ArmBy s l₀ ts scope loops k d x.kind slot' q x.top r l' → t ≡ false → y ≡ joined_got x r r.top → many (first (stack_at s y.next)) < many (first (stack_at s x.next))
        arms-falls y (arm-parts u v g l₁ l₂ K ev GL (stmt-parts a b l₃ G C MK)) i ey = told-falls u g a b r l₁ l₂ l₃ l' K (rw ev at GL) G C (arm-link l₃ slot' x.top g b r l' MK) (sym et ∙ i) y ey

        pub arms_next : (y : Got) (w : ℕ) → ArmBy s l₀ ts scope loops k d x.kind slot' q x.top r l' → t ≡ false → w ≡ r.place + 2 → y ≡ joined_got x r r.top
            → Arming s l ts scope loops k d n slot at top y w l'
        arms_next y w (arm-parts u v g l₁ l₂ K ev GL (stmt-parts a b l₃ G C MK)) i ew ey = told-next u g a b r l₁ l₂ l₃ l' K (rw ev at GL) G C (arm-link l₃ slot' x.top g b r l' MK) (sym et ∙ i) y w ew ey

pub ruleset arms-laws = (arms-past, arms-nothing, arms-other, arms-stop)
